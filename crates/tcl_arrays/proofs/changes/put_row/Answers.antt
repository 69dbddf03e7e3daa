use Rattle.std.proofs.Common.{◌≡◌, ◌%◌, length, Ok, Err, refl, sym, ap, subst, ◌∙◌}
use Rattle.std.specs.Str.{chars}
use Rattle.tcl_arrays.specs.Changes.{set_of}
use Rattle.tcl_arrays.proofs.EditForms.{fill_is}
use Rattle.tcl_arrays.proofs.SetLemmas.{set_odd, set_done, set_refused}
use Rattle.tcl_frames.specs.Edits.{edit_change}
use Rattle.tcl_frames.specs.Standing.{applied, store_of}
use Rattle.tcl_frames.specs.declared.edit.Edit.TheVariants as edit
use Rattle.tcl_meaning.specs.Arrays.{no_array}
use Rattle.tcl_values.specs.Kept.{texts}
use Rattle.tcl_steps.proofs.VariableLemmas.{refused_by}
use Rattle.tcl_arrays.proofs.changes.put_row.Goals as goal

pub returns-then-len-ne0 : goal.returns-then-len-ne0
returns-then-len-ne0 c = (λ cs. set_odd (store_of cs c.args.frames.now) (chars c.args.name.now) c.args.row.now (subst (λ n. n % 2 ≡ 0 → ⊥) c.len.ensures c.if-len-ne0.true) ∙ ap Err (sym c.in_ok-message.ensures), refl)

pub returns-in-Ok : goal.returns-in-Ok
returns-in-Ok c cs =
    let s = store_of cs c.args.frames.now in
    let new = store_of cs c.edit.new.self in
    let name = chars c.args.name.now in
    let even : length (texts c.items.result.now) % 2 ≡ 0 = ap (λ l. length l % 2) c.items.ensures ∙ ap (λ n. n % 2) (sym c.len.ensures) ∙ c.if-len-ne0.false in
    subst (λ es. applied (set_of s name es) s ≡ Ok new) c.items.ensures
    (set_done s new name (texts c.items.result.now) even (sym (ap (λ r. applied r s) (fill_is s name c.items.result)) ∙ c.in-Ok.ensures.done cs))

pub returns-in_ok-about-in-Err-Refused : goal.returns-in_ok-about-in-Err-Refused
returns-in_ok-about-in-Err-Refused c =
    let name = chars c.args.name.now in
    let even : length (texts c.items.result.now) % 2 ≡ 0 = ap (λ l. length l % 2) c.items.ensures ∙ ap (λ n. n % 2) (sym c.len.ensures) ∙ c.if-len-ne0.false in (
      λ cs.
          let s = store_of cs c.args.frames.now in
          subst (λ es. set_of s name es ≡ Err (no_array name)) c.items.ensures
          (set_refused s name (texts c.items.result.now) c.in-Err-Refused.field-0-0 even
          (sym (fill_is s name c.items.result) ∙ refused_by (edit_change s name (edit.Put c.items.result)) c.in-Err-Refused.field-0 c.in-Err-Refused.field-0-0 c.in-Err-Refused.field-0-is (c.in-Err-Refused.ensures.refused cs)))
          ∙ ap Err (sym c.in_ok-about-in-Err-Refused.ensures),
      c.in-Err-Refused.ensures.same,
    )
