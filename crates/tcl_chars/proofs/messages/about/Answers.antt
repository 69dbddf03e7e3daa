use Rattle.std.proofs.Common.{ap, ◌∙◌}
use Rattle.std.specs.Str.{chars}
use Rattle.std.proofs.lemmas.Str.{chars-nil}
use Rattle.tcl_chars.proofs.MessagesLemmas.{says, wrote_about}
use Rattle.tcl_chars.proofs.messages.about.Goals as goal

pub returns : goal.returns
returns c =
    says c.from_string.result _ _ c.from_string.ensures.ok
    (wrote_about _ _ _ _ _ _ (chars c.args.before.now) (chars c.args.word.now) (chars c.args.after.now) (ap chars c.new-message.ensures.bytes ∙ chars-nil) c.in_ok-push_text.ensures.ok c.in_ok-push_text-2.ensures.ok
    c.in_ok-push_text-3.ensures.ok c.in_ok-push_text-4.ensures.ok c.in_ok-push_text-5.ensures.ok)
