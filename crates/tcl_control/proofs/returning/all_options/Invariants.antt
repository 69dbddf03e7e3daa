use Rattle.std.proofs.Common.{◌≡◌, []}
use Rattle.tcl_control.specs.Returning.{joined}
use Rattle.tcl_meaning.specs.Codes.{size_of}
use Rattle.tcl_control.proofs.returning.all_options.Given as goal

abbrev pub invariant-options : goal.invariant-options
invariant-options l = joined [] l.fn.options.items ≡ joined l.found l.options.items

abbrev pub decreases-options : goal.decreases-options
decreases-options l = size_of l.options.items
