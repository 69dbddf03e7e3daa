use Rattle.std.proofs.Common.{subst, ◌∙◌}
use Rattle.std.specs.Str.{chars}
use Rattle.std.proofs.lemmas.Str.{chars-nil}
use Rattle.tcl_chars.specs.Answers.{Answers}
use Rattle.tcl_pages.specs.DictPages.{value_or}
use Rattle.tcl_pages.specs.Texts.{Text}
use Rattle.tcl_dicts.proofs.update.value_or_empty.Goals as goal

pub returns-clause-value : goal.returns-clause-value
returns-clause-value c = subst (λ (first : Text). Answers (λ v. v) c.value_or.result (value_or first c.args.value.now (chars c.args.key.now))) (c.in_ok-empty.ensures ∙ chars-nil) c.value_or.ensures.value
