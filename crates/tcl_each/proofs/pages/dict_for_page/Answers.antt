use Rattle.std.proofs.Common.{sym, subst}
use Rattle.tcl_steps.specs.Asked.{IsAsked}
use Rattle.tcl_each.proofs.PageLemmas.{not_three}
use Rattle.tcl_each.proofs.pages.dict_for_page.Goals as goal

pub returns-then-words-ne3 : goal.returns-then-words-ne3
returns-then-words-ne3 c = subst (IsAsked c.usage.result) (sym (not_three c.args.words.now c.if-words-ne3.true)) c.usage.ensures
