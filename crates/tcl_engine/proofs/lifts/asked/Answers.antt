use Rattle.std.proofs.Common.{Err, refl, ap, ◌∙◌}
use Rattle.std.proofs.lemmas.Result.{err_from_is_err_and}
use Rattle.tcl_engine.proofs.Answering.{broken_as, asked_as}
use Rattle.tcl_engine.proofs.lifts.asked.Goals as goal

pub returns-in_err-step-clause-answered : goal.returns-in_err-step-clause-answered
returns-in_err-step-clause-answered c = let p = err_from_is_err_and c.from_residual.result c.from_residual.ensures.1 in λ page s h. broken_as c.from_residual.result page _ _ (p.1 ∙ ap Err p.2) refl refl

pub returns-clause-answered : goal.returns-clause-answered
returns-clause-answered c = λ page s h. asked_as c.args.step c.in_ok-step.field-0 page s c.in_ok-step.was h
