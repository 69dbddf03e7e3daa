use Rattle.std.proofs.Common.{ℕ, List, ◌≤◌, ◌+◌, ◌-◌, ◌≡◌, length, take}
use Rattle.tcl_values.specs.Marks.{starts}
use Rattle.tcl_values.proofs.marks.over_blocks.Given as goal

-- so many of them are left behind the place
pub record Left (bs : List ℕ) (start count at left : ℕ) : Type 0 where
  pub within : at ≤ length bs
  pub passed : starts (take at bs) + left ≡ starts (take start bs) + count

abbrev pub invariant-loop-place : goal.invariant-loop-place
invariant-loop-place l = Left l.bytes l.start l.fn.count l.place l.left

abbrev pub decreases-loop-place : goal.decreases-loop-place
decreases-loop-place l = length l.bytes - l.place
