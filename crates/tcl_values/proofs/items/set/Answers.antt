use Rattle.std.proofs.Common.{◌≡◌, ◌∙◌, ap, arith}
use Rattle.tcl_values.specs.Kept.{texts, depth_over}
use Rattle.tcl_values.proofs.Depths.{set_higher, set_lower, set_within}
use Rattle.tcl_values.proofs.Joined.{reads_written}
use Rattle.tcl_values.proofs.items.set.Goals as goal

pub depth_after-own-requires-clause-higher : goal.depth_after-own-requires-clause-higher
depth_after-own-requires-clause-higher c =
    set_higher c.args.own.now.items.items _ c.args.index c.args.element _ _ c.requires.place (c.deref.ensures.value ∙ c.put-before.ensures.put) c.requires.kept.exact c.depth-new.ensures

pub depth_after-own-requires-clause-lower : goal.depth_after-own-requires-clause-lower
depth_after-own-requires-clause-lower c =
    set_lower c.args.own.now.items.items _ c.args.index c.args.element c.put-before.result _ _ _ c.put-before.ensures.before (c.deref.ensures.value ∙ c.put-before.ensures.put) c.requires.kept.exact c.depth-new.ensures c.depth-alone.ensures

pub depth_after-own-requires-clause-limit : goal.depth_after-own-requires-clause-limit
depth_after-own-requires-clause-limit c =
    set_within c.args.own.now.items.items _ c.args.index c.args.element _ (c.deref.ensures.value ∙ c.put-before.ensures.put) c.requires.kept.exact c.requires.kept.limit c.requires.element

pub returns-clause-kept : goal.returns-clause-kept
returns-clause-kept c =
    let exact : c.depth_after-own.result ≡ depth_over c.put-before.new.elements.items = c.depth_after-own.ensures ∙ ap depth_over c.deref.ensures.value in
    record {
      limit = omega (arith, exact, set_within c.args.own.now.items.items c.put-before.new.elements.items c.args.index c.args.element _ c.put-before.ensures.put c.requires.kept.exact c.requires.kept.limit c.requires.element);
      exact = exact;
      reading = reads_written (texts c.put-before.new.elements.items);
      beside = tt;
      lower = tt;
    }
