use Rattle.std.proofs.Common.{◌-◌, ◌+◌, ◌≡◌, ◌≤◌, drop}
use Rattle.tcl_frames.specs.Parts.{paren_in}
use Rattle.tcl_frames.proofs.name.paren_in.Given as goal

abbrev pub invariant-bytes : goal.invariant-bytes
invariant-bytes l = (l.at ≤ l.size) × (l.at + paren_in (drop l.at l.bytes) ≡ paren_in l.bytes)

abbrev pub decreases-bytes : goal.decreases-bytes
decreases-bytes l = l.size - l.at
