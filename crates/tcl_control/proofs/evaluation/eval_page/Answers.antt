use Rattle.std.proofs.Common.{ap, sym, subst}
use Rattle.tcl_steps.specs.Asked.{IsAsked, at_once}
use Rattle.tcl_control.proofs.PageLemmas.{eval_usage, eval_asks}
use Rattle.tcl_control.proofs.evaluation.eval_page.Goals as goal

pub returns-then-words-eq0 : goal.returns-then-words-eq0
returns-then-words-eq0 c = subst (IsAsked c.usage.result) (sym (eval_usage c.args.words.now c.if-words-eq0.true)) c.usage.ensures

pub returns : goal.returns
returns c = ap at_once (eval_asks c.args.words.now _ c.if-words-eq0.false c.in_ok-script.ensures)
