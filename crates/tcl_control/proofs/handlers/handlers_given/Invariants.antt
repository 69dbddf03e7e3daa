use Rattle.std.proofs.Common.{◌≡◌, length, map}
use Rattle.tcl_control.specs.Clauses.{with_handlers}
use Rattle.tcl_meaning.specs.Handlers.{handlers_of}
use Rattle.tcl_steps.specs.Views.{handler_of}
use Rattle.tcl_control.proofs.handlers.handlers_given.Given as goal

abbrev pub invariant-clauses : goal.invariant-clauses
invariant-clauses l = with_handlers (map handler_of l.clauses.items) (handlers_of l.fn.dialect l.rest) ≡ handlers_of l.fn.dialect l.fn.words

abbrev pub decreases-clauses : goal.decreases-clauses
decreases-clauses l = length l.rest
