use Rattle.std.proofs.Common.{◌≡◌, ◌++◌, drop, map}
use Rattle.tcl_lists.specs.Sorted.{with_text, twice}
use Rattle.tcl_lists.proofs.sort.spelled.Given as goal

abbrev pub invariant-loop-place : goal.invariant-loop-place
invariant-loop-place l = map with_text l.items.items ++ map twice (drop l.place l.elements) ≡ map twice l.elements
