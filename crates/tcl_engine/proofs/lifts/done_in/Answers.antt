use Rattle.std.proofs.Common.{Err, refl, ap, ◌∙◌}
use Rattle.std.proofs.lemmas.Result.{err_from_is_err_and}
use Rattle.tcl_engine.proofs.Answering.{broken_as, done_in_as}
use Rattle.tcl_engine.proofs.lifts.done_in.Goals as goal

pub returns-in_err-completion-clause-answered : goal.returns-in_err-completion-clause-answered
returns-in_err-completion-clause-answered c = let p = err_from_is_err_and c.from_residual.result c.from_residual.ensures.1 in λ page s t h channels units. broken_as c.from_residual.result page _ _ (p.1 ∙ ap Err p.2) refl refl

pub returns-clause-answered : goal.returns-clause-answered
returns-clause-answered c = λ page s t h channels units. done_in_as c.args.completion c.in_ok-completion.field-0 page s t c.in_ok-completion.was h channels units
