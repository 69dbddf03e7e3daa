use Rattle.std.proofs.Common.{◌∷◌, []}
use Rattle.std.specs.Str.{chars}
use Rattle.std.specs.String.{string_bytes}
use Rattle.tcl_chars.specs.Characters.{space}
use Rattle.tcl_list.proofs.Writers.{wrote_behind}
use Rattle.tcl_list.proofs.Joining.{appended_first, appended_other}
use Rattle.tcl_list.proofs.writing.push_element.Goals as goal

pub returns-then-first : goal.returns-then-first
returns-then-first c =
    let e = appended_first c.args.first c.element_form.result (chars c.args.element.now) c.if-first.true c.element_form.ensures in
    rw e c.push_form.ensures

pub returns : goal.returns
returns c =
    let e = appended_other c.args.first c.element_form-2.result (chars c.args.element.now) c.if-first.false c.element_form-2.ensures in
    rw e (wrote_behind c.push_form-2.result (chars (string_bytes c.args.text.now)) _ _ (space ∷ []) _ c.in_ok-push.ensures.ok c.push_form-2.ensures)
