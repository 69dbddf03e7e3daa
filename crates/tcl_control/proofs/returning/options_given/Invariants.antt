use Rattle.std.proofs.Common.{◌≡◌, ◌++◌, length}
use Rattle.tcl_meaning.specs.Codes.{return_shape}
use Rattle.tcl_control.proofs.returning.options_given.Given as goal

abbrev pub invariant-pairs : goal.invariant-pairs
invariant-pairs l = l.options.items ++ (return_shape l.rest).options ≡ (return_shape l.fn.words).options

abbrev pub decreases-pairs : goal.decreases-pairs
decreases-pairs l = length l.rest
