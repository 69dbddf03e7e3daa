use Rattle.std.proofs.Common.{◌≡◌, subst}
use Rattle.std.specs.Prelude.{IfOk}
use Rattle.std.specs.Str.{chars}
use Rattle.std.proofs.lemmas.Str.{chars-nil}
use Rattle.tcl_chars.specs.Messages.{about}
use Rattle.tcl_chars.specs.Texts.{text_of}
use Rattle.tcl_control.proofs.numbers.said_of.Goals as goal

pub returns : goal.returns
returns c = subst (λ z. IfOk c.about.result (λ d. text_of d ≡ about (chars c.args.before.now) (chars c.args.word.now) z)) chars-nil c.about.ensures
