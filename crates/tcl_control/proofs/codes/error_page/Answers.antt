use Rattle.std.proofs.Common.{ap, sym, subst}
use Rattle.tcl_steps.specs.Asked.{IsAsked, at_once}
use Rattle.tcl_control.proofs.PageLemmas.{no_error_words, more_error_words, error_asks}
use Rattle.tcl_control.proofs.codes.error_page.Goals as goal

pub returns-then-words-eq0 : goal.returns-then-words-eq0
returns-then-words-eq0 c = subst (IsAsked c.error_usage.result) (sym (no_error_words c.args.words.now c.if-words-eq0.true)) c.error_usage.ensures

pub returns-then-words-gt3 : goal.returns-then-words-gt3
returns-then-words-gt3 c = subst (IsAsked c.error_usage-then-words-gt3.result) (sym (more_error_words c.args.words.now c.if-words-gt3.true)) c.error_usage-then-words-gt3.ensures

pub returns : goal.returns
returns c = ap at_once (error_asks c.args.words.now _ _ _ c.if-words-eq0.false c.if-words-gt3.false c.in_ok-message.ensures c.in_ok-options.ensures c.in_ok-error_with.ensures)
