use Rattle.std.proofs.Common.{◌∙◌, ap, sym, take, drop}
use Rattle.tcl_list.specs.Elements.{elements_of}
use Rattle.tcl_values.specs.Shape.{elements}
use Rattle.tcl_values.specs.declared.element.Items.{Items}
use Rattle.tcl_values.proofs.Depths.{depth_part}
use Rattle.tcl_values.proofs.Replaced.{part_taken}
use Rattle.tcl_values.proofs.value.Value.range.Goals as goal

pub gathered-requires : goal.gathered-requires
gathered-requires c =
    let kept = rw c.in-Row.is at c.in_ok-read_row.ensures.kept in
    depth_part c.in-Row.row.value.items.items _ c.args.first c.args.count _
    (c.in_ok-elements-in-Row.ensures ∙ ap (λ (r : Items). take c.args.count (drop c.args.first (elements r))) c.deref.ensures) kept.exact kept.limit

pub returns-clause-range : goal.returns-clause-range
returns-clause-range c =
    let read = ap elements_of (sym c.self.view_is) ∙ (rw c.in-Row.is at c.in_ok-read_row.ensures.read) in
    part_taken _ c.in-Row.row.value.items.items c.in_ok-elements-in-Row.elements.items c.args.first c.args.count _ read
    (c.in_ok-elements-in-Row.ensures ∙ ap (λ (r : Items). take c.args.count (drop c.args.first (elements r))) c.deref.ensures) c.in_ok-row-in-Row.ensures.text
