use Rattle.std.proofs.Common.{arith}
use Rattle.tcl_frames.proofs.Joined.{count_joined}
use Rattle.tcl_frames.proofs.frames.Frames.count.Goals as goal

pub returns : goal.returns
returns c = let e = count_joined c.self.inside.stack c.self.inside.variables c.args.self.now c.self.view_is in let h = c.count.ensures in omega (arith, e, h)
