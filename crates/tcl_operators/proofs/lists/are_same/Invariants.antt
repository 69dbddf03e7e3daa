use Rattle.std.proofs.Common.{◌≡◌, take}
use Rattle.tcl_values.specs.Kept.{texts}
use Rattle.tcl_operators.proofs.lists.are_same.Given as goal

abbrev pub invariant-loop-place : goal.invariant-loop-place
invariant-loop-place l = texts (take l.place l.first) ≡ texts (take l.place l.second)
