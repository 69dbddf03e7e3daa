use Rattle.std.proofs.Common.{◌≡◌, subst, ap, ◌∙◌}
use Rattle.std.proofs.lemmas.Str.{chars-nil}
use Rattle.std.specs.Prelude.{IfOk}
use Rattle.std.specs.Str.{chars}
use Rattle.tcl_chars.specs.Messages.{about}
use Rattle.tcl_chars.specs.Texts.{literal}
use Rattle.tcl_meaning.specs.Completions.{failure}
use Rattle.tcl_procs.proofs.links.cant_link.Goals as goal

pub returns-in-BadName : goal.returns-in-BadName
returns-in-BadName c = rw c.in-BadName.is (subst (λ z. IfOk c.about.result (λ d. d ≡ failure (about (literal "bad variable name") (chars c.args.local.now) z))) chars-nil c.about.ensures)

pub returns-in_ok-said-in-Itself : goal.returns-in_ok-said-in-Itself
returns-in_ok-said-in-Itself c = rw c.in-Itself.is (c.failure.ensures ∙ ap failure c.in_ok-said-in-Itself.ensures)

pub returns-in-Exists : goal.returns-in-Exists
returns-in-Exists c = rw c.in-Exists.is c.about-in-Exists.ensures
