use Rattle.std.proofs.Common.{ℕ, List, ◌≤◌, ◌<◌, ◌-◌, length}
use Rattle.std.specs.Prelude.{slice_index}
use Rattle.tcl_values.proofs.marks.marks_below.Given as goal

pub record Halved (ms : List ℕ) (most low high : ℕ) : Type 0 where
  pub order : low ≤ high
  pub within : high ≤ length ms
  pub below : 0 < low → slice_index ms (low - 1) ≤ most

abbrev pub invariant-loop-low : goal.invariant-loop-low
invariant-loop-low l = Halved l.before l.most l.low l.high

abbrev pub decreases-loop-low : goal.decreases-loop-low
decreases-loop-low l = l.high - l.low
