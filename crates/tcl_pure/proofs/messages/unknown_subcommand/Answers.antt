use Rattle.std.proofs.Common.{◌≡◌, IfOk, ap, subst, ◌∙◌}
use Rattle.std.specs.Str.{chars}
use Rattle.std.proofs.lemmas.Str.{chars-nil}
use Rattle.tcl_meaning.specs.Completions.{failure}
use Rattle.tcl_pure.proofs.Sentences.{wrote_choices}
use Rattle.tcl_pure.proofs.messages.unknown_subcommand.Goals as goal

pub returns : goal.returns
returns c =
    subst (λ t. IfOk c.about.result (λ error. error ≡ failure t))
    (wrote_choices c.args.ensemble (chars c.args.word.now) _ _ _ _ (ap chars c.new-after.ensures.bytes ∙ chars-nil) c.in_ok-push_text.ensures.ok
    (ap chars c.as_str.ensures.value ∙ c.in_ok-push_choices.ensures) c.subcommands.ensures)
    c.about.ensures
