use Rattle.std.proofs.Common.{Err, ap, ◌∙◌}
use Rattle.std.proofs.lemmas.Result.{err_from_is_err_and}
use Rattle.tcl_engine.proofs.Answering.{exited_as, exits_as}
use Rattle.tcl_engine.proofs.lifts.exited.Goals as goal

pub returns-in_err-step-clause-answered : goal.returns-in_err-step-clause-answered
returns-in_err-step-clause-answered c =
    let p = err_from_is_err_and c.from_residual.result c.from_residual.ensures.1 in
    λ page s asks. exits_as c.from_residual.result c.args.step c.in_err-step.field-0.0 page s (p.1 ∙ ap Err p.2) c.in_err-step.was asks

pub returns-clause-answered : goal.returns-clause-answered
returns-clause-answered c = λ page s asks. exited_as c.args.step c.in_ok-step.field-0 page s c.in_ok-step.was asks
