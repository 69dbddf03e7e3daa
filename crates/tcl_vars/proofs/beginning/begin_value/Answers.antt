use Rattle.std.proofs.Common.{◌≡◌, Ok, Err, sym, subst, ap, ◌∙◌}
use Rattle.std.proofs.lemmas.Result.{err_from_is_err_and}
use Rattle.std.specs.Str.{chars}
use Rattle.tcl_meaning.specs.Effects.{Give}
use Rattle.tcl_meaning.specs.Value.{Has}
use Rattle.tcl_meaning.specs.VariablePages.{old_text}
use Rattle.tcl_pages.specs.Updates.{Old, old_of, updated}
use Rattle.tcl_steps.specs.Ends.{Gives, stop_of}
use Rattle.tcl_vars.specs.Updating.{from_old}
use Rattle.tcl_vars.proofs.UpdateLemmas.{no_first, first_is, first_stops, is_set, isnt_set, isnt_made}
use Rattle.tcl_vars.proofs.beginning.begin_value.Goals as goal

pub returns-in_err-value-clause-begins : goal.returns-in_err-value-clause-begins
returns-in_err-value-clause-begins c =
    let p = err_from_is_err_and c.from_residual.result c.from_residual.ensures.1 in
    let name = chars c.args.name.now in
    let o = old_text (old_of c.args.page c.args.words.now) name (Err c.args.refusal) in
    rw (p.1, p.2)
    (no_first o (from_old c.args.dialect c.args.page name c.args.words.now) c.args.frames.now c.in_err-value.field-0.0
    (subst (λ (w : Old). Gives (old_text w name (Err c.args.refusal)) (Err c.in_err-value.field-0.0)) c.first_of-first.ensures c.in_err-value.ensures))

pub returns-in-Err-clause-begins : goal.returns-in-Err-clause-begins
returns-in-Err-clause-begins c =
    let name = chars c.args.name.now in
    let d = c.args.dialect in
    let ws = c.args.words.now in
    let o = old_text (old_of c.args.page ws) name (Err c.args.refusal) in
    let t = c.in_ok-value.value in
    rw c.stop_by.ensures
    (first_stops o (from_old d c.args.page name ws) c.args.frames.now c.args.frames.now t (stop_of c.in-Err.fault)
    (subst (λ (w : Old). old_text w name (Err c.args.refusal) ≡ Give (Has t)) c.first_of-first.ensures c.in_ok-value.ensures)
    (isnt_made name (updated d c.args.page t ws) c.args.frames.now c.in-Err.fault c.in-Err.ensures.done))

pub returns-in_err-assign-clause-begins : goal.returns-in_err-assign-clause-begins
returns-in_err-assign-clause-begins c =
    let p = err_from_is_err_and c.from_residual-in_err-assign.result c.from_residual-in_err-assign.ensures.1 in
    let name = chars c.args.name.now in
    let d = c.args.dialect in
    let ws = c.args.words.now in
    let o = old_text (old_of c.args.page ws) name (Err c.args.refusal) in
    let t = c.in_ok-value.value in
    let g = c.assign.new.frames in
    let s = c.in_err-assign.field-0.0 in
    rw (p.1, p.2)
    (first_stops o (from_old d c.args.page name ws) c.args.frames.now g t s
    (subst (λ (w : Old). old_text w name (Err c.args.refusal) ≡ Give (Has t)) c.first_of-first.ensures c.in_ok-value.ensures)
    (isnt_set name c.in_ok-copy.field-0 (updated d c.args.page t ws) c.args.frames.now g s (c.in-Ok.ensures.done ∙ ap Ok (sym c.in_ok-copy.ensures)) c.in_err-assign.ensures.ends))

pub returns-clause-begins : goal.returns-clause-begins
returns-clause-begins c =
    let name = chars c.args.name.now in
    let d = c.args.dialect in
    let ws = c.args.words.now in
    let o = old_text (old_of c.args.page ws) name (Err c.args.refusal) in
    let t = c.in_ok-value.value in
    let g = c.assign.new.frames in
    rw (sym c.in_ok-copy.ensures)
    (first_is o (from_old d c.args.page name ws) c.args.frames.now g t _
    (subst (λ (w : Old). old_text w name (Err c.args.refusal) ≡ Give (Has t)) c.first_of-first.ensures c.in_ok-value.ensures)
    (is_set name c.in_ok-copy.field-0 (updated d c.args.page t ws) c.args.frames.now g (c.in-Ok.ensures.done ∙ ap Ok (sym c.in_ok-copy.ensures)) c.in_ok-assign.ensures.ends))
