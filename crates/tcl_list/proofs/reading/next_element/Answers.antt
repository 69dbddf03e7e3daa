use Rattle.std.proofs.lemmas.Result.{err_from_is_err_and}
use Rattle.std.specs.Str.{chars}
use Rattle.tcl_list.specs.Texts.{in_characters}
use Rattle.tcl_list.proofs.Parts.{nothing_left, one_element, element_stops}
use Rattle.tcl_list.proofs.reading.next_element.Goals as goal

pub returns-in_default : goal.returns-in_default
returns-in_default c = nothing_left _ _ c.skip_space-start.ensures c.in_default.ensures.parts

pub returns-in_err-element : goal.returns-in_err-element
returns-in_err-element c =
    let p = err_from_is_err_and c.from_residual.result c.from_residual.ensures.1 in
    rw (p.1, p.2) (element_stops (chars c.args.text.now) (chars c.skip_space-start.result.now) _ _ (in_characters c.in_err-element.field-0.0) c.skip_space-start.ensures c.in-Some.ensures.parts.in_chars c.in_err-element.ensures)

pub returns : goal.returns
returns c = one_element _ _ _ _ _ _ c.skip_space-start.ensures c.in-Some.ensures.parts.in_chars c.in_ok-element.ensures
