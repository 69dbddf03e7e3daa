use Rattle.std.proofs.Common.{◌∙◌, ap, sym, length, arith}
use Rattle.tcl_list.specs.Elements.{elements_of}
use Rattle.tcl_values.specs.Shape.{elements}
use Rattle.tcl_values.specs.declared.element.Items.{Items}
use Rattle.tcl_values.proofs.Replaced.{item_replaced}
use Rattle.tcl_values.proofs.value.Value.replace_item.Goals as goal

pub returns-clause-done : goal.returns-clause-done
returns-clause-done c =
    let read = ap elements_of (sym c.self.view_is) ∙ (rw c.in-Row.is at c.in_ok-read_row.ensures.read) in
    item_replaced _ c.in-Row.row.value.items.items c.set_element.new.row.value.items.items c.args.index c.in_ok-element.element _ _ read (omega (arith, ap (λ (r : Items). length (elements r)) c.deref.ensures)) c.in_ok-set_element-in-Row.ensures.set c.in_ok-element.ensures.text c.in_ok-set_element-in-Row.ensures.text
