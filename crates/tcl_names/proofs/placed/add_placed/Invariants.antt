use Rattle.std.proofs.Common.{◌≡◌, drop}
use Rattle.tcl_names.specs.Placed.{with_present}
use Rattle.tcl_names.specs.Places.{names_in}
use Rattle.tcl_names.proofs.placed.add_placed.Given as goal

abbrev pub invariant-loop-place : goal.invariant-loop-place
invariant-loop-place g l = with_present l.whole (names_in (drop l.place-index l.places)) l.names ≡ with_present l.whole (names_in l.places) l.fn.names
