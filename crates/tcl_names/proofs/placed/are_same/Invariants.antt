use Rattle.std.proofs.Common.{◌-◌, ◌≡◌, ◌≤◌, nat_eq, drop}
use Rattle.std.specs.Cmp.Lexicographic.{pointwise}
use Rattle.tcl_names.proofs.placed.are_same.Given as goal

abbrev pub invariant-bytes : goal.invariant-bytes
invariant-bytes l = (l.at ≤ l.size) × (pointwise nat_eq (drop l.at l.bytes) (drop l.at l.others) ≡ pointwise nat_eq l.bytes l.others)

abbrev pub decreases-bytes : goal.decreases-bytes
decreases-bytes l = l.size - l.at
