use Rattle.std.proofs.Common.{sym, subst}
use Rattle.std.proofs.lemmas.Result.{err_from_is_err_and}
use Rattle.tcl_steps.specs.Ends.{DoesAsk}
use Rattle.tcl_engine.proofs.Answering.{done_asks}
use Rattle.tcl_engine.proofs.frames.done.Goals as goal

pub returns-in_err-completion : goal.returns-in_err-completion
returns-in_err-completion c = let p = err_from_is_err_and c.from_residual.result c.from_residual.ensures.1 in λ page f g h. subst (λ r. DoesAsk page f r g) (sym p.1) tt

pub returns : goal.returns
returns c = λ page f g h. done_asks c.args.completion c.in_ok-completion.field-0 page f g c.in_ok-completion.was h
