use Rattle.std.proofs.Common.{sym, ap, ◌∙◌, append_assoc}
use Rattle.std.specs.Str.{chars}
use Rattle.std.proofs.lemmas.Str.{chars-nil}
use Rattle.tcl_chars.proofs.MessagesLemmas.{says}
use Rattle.tcl_chars.specs.Texts.{literal}
use Rattle.tcl_list.proofs.Messages.{in_three}
use Rattle.tcl_procs.proofs.looking.no_procedure.Goals as goal

pub returns : goal.returns
returns c =
    says c.from_string.result _ _ c.from_string.ensures.ok
    (in_three _ _ _ _ _ _ _ (ap chars c.new-text.ensures.bytes ∙ chars-nil) c.in_ok-push_text.ensures.ok c.in_ok-push_text-2.ensures.ok c.in_ok-push_text-3.ensures.ok ∙ sym (append_assoc (literal "\"") (chars c.args.name.now) (literal "\" isn't a procedure")))
