use Rattle.std.proofs.Common.{Some, map as each, sym, ap, ◌∙◌}
use Rattle.std.specs.FinMap as map
use Rattle.std.specs.Str.{chars}
use Rattle.tcl_arrays.proofs.EditForms.{remove_is, none_refuses}
use Rattle.tcl_arrays.proofs.UnsetLemmas.{nothing_goes, elements_go}
use Rattle.tcl_arrays.proofs.Walks.{is_none_there, is_one_there}
use Rattle.tcl_chars.specs.Texts.{text_of}
use Rattle.tcl_frames.specs.Edits.{edit_change}
use Rattle.tcl_frames.specs.Standing.{applied, store_of}
use Rattle.tcl_frames.specs.declared.edit.Edit.TheVariants as edit
use Rattle.tcl_steps.proofs.VariableLemmas.{refused_by}
use Rattle.tcl_arrays.proofs.changes.drop_elements.Goals as goal

pub returns-then-is_none : goal.returns-then-is_none
returns-then-is_none c cs =
    nothing_goes (store_of cs c.args.frames.now) (chars c.args.name.now) (Some (text_of c.args.pattern))
    (is_none_there c.array.result c.is_none.result _ c.is_none.ensures c.if-is_none.true (c.array.ensures cs))

pub returns-in-Ok : goal.returns-in-Ok
returns-in-Ok c cs =
    let s = store_of cs c.args.frames.now in
    let name = chars c.args.name.now in
    let is = is_one_there c.array.result c.is_none.result _ c.is_none.ensures c.if-is_none.false (c.array.ensures cs) in
    elements_go s (store_of cs c.edit.new.self) name (text_of c.args.pattern) is.0 (each text_of c.deref.result.now) is.1 (ap (each text_of) c.deref.ensures.value ∙ c.in_ok-names.ensures cs)
    (sym (ap (λ r. applied r s) (remove_is s name c.deref.result)) ∙ c.in-Ok.ensures.done cs)

pub unreachable-requires : goal.unreachable-requires
unreachable-requires c =
    let s = store_of map.empty c.args.frames.now in
    let name = chars c.args.name.now in
    let is = is_one_there c.array.result c.is_none.result _ c.is_none.ensures c.if-is_none.false (c.array.ensures map.empty) in
    none_refuses s name is.0 c.deref.result c.in-Err-Refused.field-0-0 is.1
    (refused_by (edit_change s name (edit.Remove c.deref.result)) c.in-Err-Refused.field-0 c.in-Err-Refused.field-0-0 c.in-Err-Refused.field-0-is (c.in-Err-Refused.ensures.refused map.empty))
