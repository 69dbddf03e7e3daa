use Rattle.std.proofs.Common.{◌≤◌, ◌-◌, ◌≡◌, length, take}
use Rattle.tcl_values.specs.Marks.{starts}
use Rattle.tcl_values.proofs.marks.next_begin.Given as goal

abbrev pub invariant-loop-next : goal.invariant-loop-next
invariant-loop-next l = (l.next ≤ length l.bytes) × (starts (take l.next l.bytes) ≡ starts (take l.place l.bytes))

abbrev pub decreases-loop-next : goal.decreases-loop-next
decreases-loop-next l = length l.bytes - l.next
