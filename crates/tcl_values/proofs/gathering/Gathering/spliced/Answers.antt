use Rattle.std.proofs.Common.{◌++◌, ◌∙◌, ap, arith}
use Rattle.tcl_values.specs.Kept.{texts, depth_over}
use Rattle.tcl_values.proofs.Gathered.{replaced_deeper, replaced_texts}
use Rattle.tcl_values.proofs.gathering.Gathering.spliced.Goals as goal

pub add_values-requires-clause-deeper : goal.add_values-requires-clause-deeper
add_values-requires-clause-deeper c = omega (arith, ap depth_over c.new-inserted.ensures.items)

pub invariant_of-result : goal.invariant_of-result
invariant_of-result c = record {
  limit = omega (arith, c.max.ensures, c.self.invariant.limit, c.in_ok-new.ensures.limit);
  deeper = replaced_deeper c.self.inside.items.items c.add_values.new.items.items c.splice_elements.new.elements.items c.args.first c.saturating_sub.result c.self.inside.depth c.in_ok-new.new _ c.in_ok-splice_elements.ensures.done
      c.self.invariant.deeper c.in_ok-new.ensures.deeper c.max.ensures;
}

pub returns : goal.returns
returns c =
    replaced_texts c.self.inside.items.items c.add_values.new.items.items c.splice_elements.new.elements.items c.args.first c.args.last c.saturating_sub.result _ _ c.in_ok-splice_elements.ensures.done c.saturating_sub.ensures c.self.view_is
    (c.in_ok-new.ensures.texts ∙ ap (λ (ks : _). texts ks ++ c.args.values.now) c.new-inserted.ensures.items)
