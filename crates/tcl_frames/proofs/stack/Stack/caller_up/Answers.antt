use Rattle.std.proofs.Common.{sym, ap, ◌∙◌, ◌-◌, arith}
use Rattle.tcl_meaning.specs.Frames.{Frame, chain_of, nth}
use Rattle.tcl_frames.proofs.Standings.{frame_at-get, up_step}
use Rattle.tcl_frames.proofs.stack.Stack.caller_up.Goals as goal

pub up-preserved : goal.up-preserved
up-preserved c =
    let fs = c.self.inside.calls.items in
    let near = c.up.invariant.earlier in
    let inside = c.self.invariant.sound.active in
    let is = c.caller-frame.ensures ∙ ap (λ (f : Frame). f.caller) (c.index.ensures ∙ sym (frame_at-get fs c.up.frame c.index.result.now (omega (arith, near, inside)))) in
    record {
      earlier = let down = c.self.invariant.sound.callers c.up.frame in omega (arith, is, down, near);
      found = ap (λ i. nth (c.up.left - 1) (chain_of (c.up.above - 1) fs i)) is ∙ up_step fs c.up.left c.up.above c.up.frame (omega arith) (omega arith) ∙ c.up.invariant.found;
    }
