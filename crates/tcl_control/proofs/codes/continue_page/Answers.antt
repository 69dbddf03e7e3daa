use Rattle.std.proofs.Common.{sym, subst}
use Rattle.tcl_steps.specs.Asked.{IsAsked}
use Rattle.tcl_control.proofs.PageLemmas.{continue_is, continue_usage}
use Rattle.tcl_control.proofs.codes.continue_page.Goals as goal

pub returns-then-words-eq0 : goal.returns-then-words-eq0
returns-then-words-eq0 c = subst (IsAsked c.ended.result) (sym (continue_is c.args.words.now c.if-words-eq0.true)) c.ended.ensures

pub returns : goal.returns
returns c = subst (IsAsked c.usage.result) (sym (continue_usage c.args.words.now c.if-words-eq0.false)) c.usage.ensures
