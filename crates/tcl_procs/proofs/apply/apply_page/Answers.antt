use Rattle.std.proofs.Common.{sym, subst}
use Rattle.tcl_steps.specs.Asked.{IsAsked}
use Rattle.tcl_procs.proofs.LambdaLemmas.{apply_usage}
use Rattle.tcl_procs.proofs.apply.apply_page.Goals as goal

pub returns-then-words-eq0 : goal.returns-then-words-eq0
returns-then-words-eq0 c = subst (IsAsked c.usage.result) (sym (apply_usage c.args.words.now c.if-words-eq0.true)) c.usage.ensures
