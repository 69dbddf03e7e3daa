use Rattle.std.proofs.Common.{◌++◌, ap, ◌∙◌}
use Rattle.std.specs.Str.{chars}
use Rattle.std.specs.String.{string_bytes}
use Rattle.std.proofs.lemmas.Str.{chars-nil}
use Rattle.tcl_chars.proofs.MessagesLemmas.{says}
use Rattle.tcl_list.proofs.Messages.{in_three}
use Rattle.tcl_list.proofs.faults.followed_by.Goals as goal

pub returns : goal.returns
returns c =
    says c.from_string.result _ _ c.from_string.ensures.ok
    (in_three _ _ _ _ _ _ _ (ap chars c.new-message.ensures.bytes ∙ chars-nil)
    (c.in_ok-push_text.ensures.ok ∙ ap (λ t. chars (string_bytes c.new-message.result) ++ t) c.beginning.ensures) c.in_ok-push_to_space.ensures
    c.in_ok-push_text-2.ensures.ok)
