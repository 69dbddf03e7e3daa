use Rattle.std.proofs.Common.{ℕ, List, ◌*◌, ◌-◌, ◌≡◌, length, take}
use Rattle.tcl_values.specs.Marks.{starts, AreMarks}
use Rattle.tcl_values.proofs.marks.Marks.extend.Given as goal

-- the blocks in front of the place are marked
pub record Marked (ms bs : List ℕ) (at n : ℕ) : Type 0 where
  pub marks : AreMarks ms bs
  pub place : at ≡ 64 * length ms
  pub count : n ≡ starts (take at bs)

abbrev pub invariant-loop-place : goal.invariant-loop-place
invariant-loop-place l = Marked l.self.before.items l.bytes l.place l.count

abbrev pub decreases-loop-place : goal.decreases-loop-place
decreases-loop-place l = length l.bytes - l.place
