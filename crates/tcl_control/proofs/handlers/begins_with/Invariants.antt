use Rattle.std.proofs.Common.{◌≡◌, length}
use Rattle.tcl_meaning.specs.Handlers.{begins_with}
use Rattle.tcl_control.proofs.handlers.begins_with.Given as goal

abbrev pub invariant-elements : goal.invariant-elements
invariant-elements l = begins_with l.fn.pattern l.fn.elements ≡ begins_with l.left l.rest

abbrev pub decreases-elements : goal.decreases-elements
decreases-elements l = length l.left
