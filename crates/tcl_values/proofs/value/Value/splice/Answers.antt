use Rattle.std.proofs.Common.{◌∙◌, ap, sym}
use Rattle.tcl_list.specs.Elements.{elements_of}
use Rattle.tcl_values.proofs.Replaced.{list_spliced}
use Rattle.tcl_values.proofs.value.Value.splice.Goals as goal

pub returns-clause-done : goal.returns-clause-done
returns-clause-done c =
    let read = ap elements_of (sym c.self.view_is) ∙ (rw c.in-Row.is at c.in_ok-read_row.ensures.read) in
    list_spliced _ c.in-Row.row.value.items.items c.in_ok-inserted.inserted.items c.splice.new.row.value.items.items c.args.first c.args.count _ _ read c.in_ok-splice-in-Row.ensures.done c.in_ok-inserted.ensures.texts c.in_ok-splice-in-Row.ensures.text
