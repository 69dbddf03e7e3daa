use Rattle.std.proofs.Common.{sym, subst}
use Rattle.tcl_chars.specs.Answers.{Answers}
use Rattle.tcl_lists.proofs.WordsLemmas.{lreverse_usage}
use Rattle.tcl_lists.proofs.whole.lreverse.Goals as goal

pub returns-then-words-ne1-clause-answer : goal.returns-then-words-ne1-clause-answer
returns-then-words-ne1-clause-answer c = subst (Answers (λ v. v) c.usage.result) (sym (lreverse_usage c.args.words.now c.if-words-ne1.true)) c.usage.ensures
