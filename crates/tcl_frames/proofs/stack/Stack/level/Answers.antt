use Rattle.std.proofs.Common.{ap, sym, ◌∙◌}
use Rattle.tcl_meaning.specs.Frames.{Frame}
use Rattle.tcl_frames.proofs.Standings.{frame_here}
use Rattle.tcl_frames.proofs.stack.Stack.level.Goals as goal

pub returns : goal.returns
returns c = c.level.ensures ∙ ap (λ (f : Frame). f.level) (sym (frame_here c.self.inside.calls.items c.self.inside.active c.args.self.now c.index.result.now c.self.view_is c.index.ensures c.self.invariant))
