use Rattle.std.proofs.Common.{◌≡◌, subst}
use Rattle.std.proofs.lemmas.Str.{chars-nil}
use Rattle.std.specs.Prelude.{IfOk}
use Rattle.std.specs.Str.{chars}
use Rattle.tcl_chars.specs.Messages.{about}
use Rattle.tcl_chars.specs.Texts.{literal}
use Rattle.tcl_meaning.specs.Completions.{failure}
use Rattle.tcl_procs.proofs.levels.bad_level.Goals as goal

pub returns : goal.returns
returns c = subst (λ z. IfOk c.about.result (λ d. d ≡ failure (about (literal "bad level") (chars c.args.word.now) z))) chars-nil c.about.ensures
