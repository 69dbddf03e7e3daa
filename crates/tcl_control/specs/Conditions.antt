-- What conditions have come to.
use Rattle.tcl_meaning.specs.Asking.{Asks}
use Rattle.tcl_meaning.specs.Control.{ask_if}
use Rattle.tcl_meaning.specs.Value.{fail}
use Rattle.tcl_control.specs.declared.conditions.Condition.{Condition}
use Rattle.tcl_control.specs.declared.conditions.Condition.TheVariants as condition

-- what a condition has come to: a truth value, or a completion that is the command's
abbrev pub by_test : Condition → Asks → Asks → Asks
by_test (condition.Holds b) go stay = ask_if b go stay
by_test (condition.Ends c) go stay = fail c
