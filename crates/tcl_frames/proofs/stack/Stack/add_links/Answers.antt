use Rattle.tcl_frames.proofs.Standings.{frame_here}
use Rattle.tcl_frames.proofs.stack.Stack.add_links.Goals as goal

pub returns : goal.returns
returns c = rw (frame_here c.self.inside.calls.items c.self.inside.active c.args.self.now c.index.result.now c.self.view_is c.index.ensures c.self.invariant) c.add_links.ensures
