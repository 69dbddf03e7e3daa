use Rattle.std.proofs.Common.{Err, refl, ap, ◌∙◌}
use Rattle.std.proofs.lemmas.Result.{err_from_is_err_and}
use Rattle.tcl_engine.proofs.Answering.{broken_as, asked_over_as}
use Rattle.tcl_engine.proofs.lifts.asked_over.Goals as goal

pub returns-in_err-step-clause-answered : goal.returns-in_err-step-clause-answered
returns-in_err-step-clause-answered c = let p = err_from_is_err_and c.from_residual.result c.from_residual.ensures.1 in λ page f g h cs channels units. broken_as c.from_residual.result page _ _ (p.1 ∙ ap Err p.2) refl refl

pub returns-clause-answered : goal.returns-clause-answered
returns-clause-answered c = λ page f g h cs channels units. asked_over_as c.args.step c.in_ok-step.field-0 page f g c.in_ok-step.was h cs channels units
