use Rattle.std.proofs.Common.{Err, refl, ap, ◌∙◌}
use Rattle.std.proofs.lemmas.Result.{err_from_is_err_and}
use Rattle.tcl_engine.proofs.Answering.{broken_as}
use Rattle.tcl_engine.proofs.Calling.{empty_answers}
use Rattle.tcl_engine.proofs.host.Host.invoke.Goals as goal

pub returns-in_err-word-clause-answered : goal.returns-in_err-word-clause-answered
returns-in_err-word-clause-answered g c = let p = err_from_is_err_and c.from_residual.result c.from_residual.ensures.1 in broken_as c.from_residual.result _ _ _ (p.1 ∙ ap Err p.2) refl refl

pub returns-in_default-clause-answered : goal.returns-in_default-clause-answered
returns-in_default-clause-answered g c = empty_answers c.args.dialect _ _ _ c.args.words.now c.in_default.ensures.cases (c.asked.ensures.answered _ _ c.no_words.ensures)
