use Rattle.std.proofs.Common.{◌∙◌, ap, sym, subst}
use Rattle.std.proofs.lemmas.Result.{err_from_is_err_and}
use Rattle.tcl_chars.specs.Answers.{Stops}
use Rattle.tcl_list.specs.Elements.{elements_of}
use Rattle.tcl_values.proofs.Placed.{under_unread, under_done}
use Rattle.tcl_values.proofs.value.Value.put_item_under.Goals as goal

pub returns-in_err-read_row-clause-done : goal.returns-in_err-read_row-clause-done
returns-in_err-read_row-clause-done c =
    let p = err_from_is_err_and c.from_residual-in_err-read_row.result c.from_residual-in_err-read_row.ensures.1 in
    rw (p.1, p.2)
    (under_unread c.args.self.now c.args.item c.args.places.items c.reverse.new.self.items c.pop.new.self.items c.in-Some.place c.reverse.ensures.items c.in-Some.ensures.items c.in_err-read_row.field-0.0
    (subst (λ t. Stops c.in_err-read_row.field-0.0 (elements_of t)) c.self.view_is c.in_err-read_row.ensures.read))

pub returns-clause-done : goal.returns-clause-done
returns-clause-done c =
    let read = ap elements_of (sym c.self.view_is) ∙ (rw c.in-Row.is at c.in_ok-read_row.ensures.read) in
    under_done c.args.self.now c.args.item c.args.places.items c.reverse.new.self.items c.pop.new.self.items c.in-Some.place c.reverse.ensures.items c.in-Some.ensures.items c.place_row.result c.in_ok-element.element.text _
    c.in-Row.row.value.items.items c.place_row.new.row.value.items.items (c.in_ok-element.ensures.text ∙ c.in_ok-into_element.ensures.text) read c.place_row.ensures.done c.place_row.ensures.text
