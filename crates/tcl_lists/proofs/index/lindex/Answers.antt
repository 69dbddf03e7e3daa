use Rattle.std.proofs.Common.{sym, subst}
use Rattle.tcl_chars.specs.Answers.{Answers}
use Rattle.tcl_lists.proofs.IndexLemmas.{lindex_usage}
use Rattle.tcl_lists.proofs.index.lindex.Goals as goal

pub returns-then-words-eq0-clause-answer : goal.returns-then-words-eq0-clause-answer
returns-then-words-eq0-clause-answer c = subst (Answers (λ v. v) c.usage.result) (sym (lindex_usage c.args.dialect c.args.words.now c.if-words-eq0.true)) c.usage.ensures
