use Rattle.std.proofs.Common.{◌≡◌, IfOk, ap, subst, ◌∙◌}
use Rattle.std.specs.Str.{chars}
use Rattle.std.proofs.lemmas.Str.{chars-nil}
use Rattle.tcl_meaning.specs.Completions.{wrong_words}
use Rattle.tcl_pure.proofs.Sentences.{wrote_usage}
use Rattle.tcl_pure.proofs.messages.subcommand_usage.Goals as goal

pub returns : goal.returns
returns c =
    subst (λ t. IfOk c.wrong_words.result (λ error. error ≡ wrong_words t))
    (wrote_usage c.args.ensemble _ _ _ (ap chars c.new-usage.ensures.bytes ∙ chars-nil) (ap chars c.as_str.ensures.value ∙ c.in_ok-push_both.ensures) c.ensemble_name.ensures)
    c.wrong_words.ensures
