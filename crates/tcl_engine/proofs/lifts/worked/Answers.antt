use Rattle.std.proofs.Common.{Err, ap, ◌∙◌}
use Rattle.std.proofs.lemmas.Result.{err_from_is_err_and}
use Rattle.tcl_engine.proofs.Answering.{worked_as, faulted_as}
use Rattle.tcl_engine.proofs.lifts.worked.Goals as goal

pub returns-in_err-completion-clause-answered : goal.returns-in_err-completion-clause-answered
returns-in_err-completion-clause-answered c =
    let p = err_from_is_err_and c.from_residual.result c.from_residual.ensures.1 in
    λ page s t works adds free frames. faulted_as c.from_residual.result c.args.completion c.in_err-completion.field-0.0 page s t (p.1 ∙ ap Err p.2) c.in_err-completion.was works adds free

pub returns-clause-answered : goal.returns-clause-answered
returns-clause-answered c = λ page s t works adds free frames. worked_as c.args.completion c.in_ok-completion.field-0 page s t c.in_ok-completion.was works adds free frames
