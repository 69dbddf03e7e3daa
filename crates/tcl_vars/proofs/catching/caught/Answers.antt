use Rattle.std.proofs.Common.{List, [], ◌∷◌, get_or, ap, ◌∙◌}
use Rattle.std.proofs.lemmas.Result.{err_from_is_err_and}
use Rattle.tcl_meaning.specs.Completions.{code_number, options_text}
use Rattle.tcl_meaning.specs.declared.code.Code.{Code}
use Rattle.tcl_pages.specs.Texts.{Text, number_text}
use Rattle.tcl_vars.proofs.AssignLemmas.{caught_is, caught_stops}
use Rattle.tcl_vars.proofs.catching.caught.Goals as goal

pub returns-in_err-assign_all : goal.returns-in_err-assign_all
returns-in_err-assign_all c =
    let p = err_from_is_err_and c.from_residual-in_err-assign_all.result c.from_residual-in_err-assign_all.ensures.1 in
    let d = c.args.completion.now in
    rw (p.1, p.2)
    (caught_stops c.args.names.now d c.args.frames.now c.assign_all.new.frames c.in_err-assign_all.field-0.0
    (c.in_err-assign_all.ensures.ends (d.result ∷ options_text d ∷ []) (λ i lt. ap (λ (vs : List Text). get_or vs i []) c.deref.ensures.value ∙ c.in_ok-values.ensures i lt)))

pub returns : goal.returns
returns c =
    let d = c.args.completion.now in
    rw c.normal.ensures
    (caught_is c.args.names.now d c.args.frames.now c.assign_all.new.frames c.code_value-code.result (c.code_value-code.ensures ∙ ap (λ (k : Code). number_text (code_number k)) c.code_now.ensures)
    (c.in_ok-assign_all.ensures.ends (d.result ∷ options_text d ∷ []) (λ i lt. ap (λ (vs : List Text). get_or vs i []) c.deref.ensures.value ∙ c.in_ok-values.ensures i lt)))
