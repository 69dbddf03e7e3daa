use Rattle.std.proofs.Common.{◌≡◌, ◌∙◌, ap, arith}
use Rattle.tcl_values.specs.Kept.{texts, depth_over}
use Rattle.tcl_values.proofs.Depths.{depth_inserted, depth_spliced}
use Rattle.tcl_values.proofs.Joined.{reads_written}
use Rattle.tcl_values.proofs.items.splice_own.Goals as goal

pub depth_with-own-requires-clause-added : goal.depth_with-own-requires-clause-added
depth_with-own-requires-clause-added c =
    depth_inserted c.args.own.now.items.items c.args.inserted.items _ c.args.first c.args.count _ _ (c.deref-2.ensures.value ∙ c.in_ok-splice_elements.ensures.done) c.requires.kept.exact
    (c.deepest-new.ensures ∙ ap depth_over c.deref.ensures.value)

pub depth_with-own-requires-clause-limit : goal.depth_with-own-requires-clause-limit
depth_with-own-requires-clause-limit c =
    depth_spliced c.args.own.now.items.items c.args.inserted.items _ c.args.first _ _ (c.deref-2.ensures.value ∙ c.in_ok-splice_elements.ensures.done) c.requires.kept.exact c.requires.kept.limit c.requires.inserted

pub returns-clause-kept : goal.returns-clause-kept
returns-clause-kept c =
    let exact : c.depth_with-own.result ≡ depth_over c.splice_elements.new.elements.items = c.depth_with-own.ensures ∙ ap depth_over c.deref-2.ensures.value in
    record {
      limit = omega (arith, exact, depth_spliced c.args.own.now.items.items c.args.inserted.items c.splice_elements.new.elements.items c.args.first _ _ c.in_ok-splice_elements.ensures.done c.requires.kept.exact c.requires.kept.limit c.requires.inserted);
      exact = exact;
      reading = reads_written (texts c.splice_elements.new.elements.items);
      beside = tt;
      lower = tt;
    }
