use Rattle.std.proofs.Common.{Err, sym, ap, ◌∙◌}
use Rattle.std.specs.Str.{chars}
use Rattle.std.proofs.lemmas.Str.{chars-nil}
use Rattle.tcl_chars.specs.Messages.{about}
use Rattle.tcl_chars.specs.Texts.{literal}
use Rattle.tcl_procs.proofs.ReadingLemmas.{many_fields}
use Rattle.tcl_procs.proofs.formals.formal_by.Goals as goal

pub returns-in_ok-said-in_default : goal.returns-in_ok-said-in_default
returns-in_ok-said-in_default c =
    many_fields (chars c.args.text.now) c.args.fields.now c.in_default.len_at_least
    ∙ ap Err (sym (c.in_ok-said-in_default.ensures ∙ ap (about (literal "too many fields in argument specifier") (chars c.args.text.now)) chars-nil))
