use Rattle.std.proofs.Common.{Err, subst}
use Rattle.std.proofs.lemmas.Str.{chars-nil}
use Rattle.std.specs.Str.{chars}
use Rattle.tcl_meaning.specs.VariablePages.{old_text}
use Rattle.tcl_pages.specs.Texts.{Text}
use Rattle.tcl_pages.specs.Updates.{begins}
use Rattle.tcl_steps.specs.Ends.{Gives}
use Rattle.tcl_vars.proofs.first.first_text.Goals as goal

pub returns-in-Empty : goal.returns-in-Empty
returns-in-Empty c = rw c.in-Empty.is (subst (λ (t : Text). Gives (old_text (begins t) (chars c.args.name.now) (Err c.args.refusal)) c.begun.result) chars-nil c.begun.ensures)
