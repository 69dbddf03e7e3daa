use Rattle.std.proofs.Common.{◌≡◌, ◌≤◌}
use Rattle.tcl_meaning.specs.Frames.{frame_of_level, at, chain_of, of_level}
use Rattle.tcl_frames.proofs.stack.Stack.caller_at.Given as goal

abbrev pub decreases-up : goal.decreases-up
decreases-up l = l.above

-- the frame of the level is the one among this one and its callers
abbrev pub invariant-up : goal.invariant-up
invariant-up l = record {
  earlier : l.frame ≤ l.self-inside.active;
  found : of_level l.self-inside.calls.items l.fn.level (chain_of l.above l.self-inside.calls.items l.frame) ≡ frame_of_level l.self-inside.calls.items l.self-inside.active (at l.fn.level);
}
