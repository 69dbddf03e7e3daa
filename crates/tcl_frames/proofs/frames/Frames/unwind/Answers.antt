use Rattle.std.proofs.Common.{arith}
use Rattle.tcl_frames.proofs.OneFrame.{one_left}
use Rattle.tcl_frames.proofs.frames.Frames.unwind.Goals as goal

pub returns : goal.returns
returns c = one_left c.args.self.now c.loop-self.self c.activate.new.self c.loop-self.invariant.same (let e = c.count.ensures in let h = c.loop-self-test.false in omega (e, h, arith)) c.activate.ensures.active
