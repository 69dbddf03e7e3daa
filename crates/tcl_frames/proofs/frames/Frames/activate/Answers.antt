use Rattle.std.proofs.Common.{arith}
use Rattle.tcl_frames.proofs.Joined.{count_joined}
use Rattle.tcl_frames.proofs.frames.Frames.activate.Goals as goal

pub activate-requires : goal.activate-requires
activate-requires c = let e = count_joined c.self.inside.stack c.self.inside.variables c.args.self.now c.self.view_is in let h = c.requires in omega (arith, e, h)

pub returns-clause-there : goal.returns-clause-there
returns-clause-there c = let e = count_joined c.self.inside.stack c.self.inside.variables c.args.self.now c.self.view_is in let h = c.activate.ensures.there in omega (arith, e, h)
