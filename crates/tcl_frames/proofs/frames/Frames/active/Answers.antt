use Rattle.std.proofs.Common.{arith}
use Rattle.tcl_frames.proofs.Joined.{count_joined}
use Rattle.tcl_frames.proofs.frames.Frames.active.Goals as goal

pub returns-clause-there : goal.returns-clause-there
returns-clause-there c = let e = count_joined c.self.inside.stack c.self.inside.variables c.args.self.now c.self.view_is in let h = c.active.ensures.there in omega (arith, e, h)
