use Rattle.std.proofs.Common.{◌≡◌, ◌≤◌, ◌-◌, ℕ, [], length, get_or}
use Rattle.tcl_strings.proofs.keys.empty_groups.Given as goal

abbrev pub invariant-loop-alloc : goal.invariant-loop-alloc
invariant-loop-alloc l = record {
  size : length l.groups.items ≤ l.count;
  empty : (k : ℕ) → get_or l.groups.items k [] ≡ [];
}

abbrev pub decreases-loop-alloc : goal.decreases-loop-alloc
decreases-loop-alloc l = l.count - length l.groups.items
