use Rattle.std.proofs.Common.{ℕ, List, ◌≤◌, ◌-◌, ◌≡◌, length, take}
use Rattle.tcl_values.specs.Marks.{starts}
use Rattle.tcl_values.proofs.marks.starts.Given as goal

-- what begins in front of the place is counted
pub record Counted (bs : List ℕ) (at n : ℕ) : Type 0 where
  pub within : at ≤ length bs
  pub count : n ≡ starts (take at bs)

abbrev pub invariant-loop-place : goal.invariant-loop-place
invariant-loop-place l = Counted l.bytes l.place l.count

abbrev pub decreases-loop-place : goal.decreases-loop-place
decreases-loop-place l = length l.bytes - l.place
