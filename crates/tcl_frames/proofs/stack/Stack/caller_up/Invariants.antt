use Rattle.std.proofs.Common.{◌≡◌, ◌≤◌}
use Rattle.tcl_meaning.specs.Frames.{frame_of_level, up, chain_of, nth}
use Rattle.tcl_frames.proofs.stack.Stack.caller_up.Given as goal

abbrev pub decreases-up : goal.decreases-up
decreases-up l = l.left

-- what is left to go up from here leads where the whole way does
abbrev pub invariant-up : goal.invariant-up
invariant-up l = record {
  earlier : l.frame ≤ l.self-inside.active;
  found : nth l.left (chain_of l.above l.self-inside.calls.items l.frame) ≡ frame_of_level l.self-inside.calls.items l.self-inside.active (up l.fn.count);
}
