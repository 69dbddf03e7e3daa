use Rattle.std.proofs.Common.{◌≡◌, ◌≤◌, length, take}
use Rattle.tcl_frames.proofs.frames.Frames.unwind.Given as goal

abbrev pub invariant-loop-self : goal.invariant-loop-self
invariant-loop-self l = record {
  same : take 1 l.self.frames ≡ take 1 l.fn.self.frames;
  some : 1 ≤ length l.self.frames;
}

abbrev pub decreases-loop-self : goal.decreases-loop-self
decreases-loop-self l = length l.self.frames
