use Rattle.std.proofs.Common.{◌≡◌, length, map}
use Rattle.tcl_meaning.specs.Handlers.{running}
use Rattle.tcl_steps.specs.Views.{handler_of}
use Rattle.tcl_control.proofs.handlers.running.Given as goal

abbrev pub invariant-handlers : goal.invariant-handlers
invariant-handlers l = running (map handler_of l.fn.handlers) ≡ running (map handler_of l.rest)

abbrev pub decreases-handlers : goal.decreases-handlers
decreases-handlers l = length l.rest
