use Rattle.tcl_activation.proofs.Resuming.{closed_one}
use Rattle.tcl_activation.proofs.stack.Stack.close_newest.Goals as goal

pub loop-preserved : goal.loop-preserved
loop-preserved c = closed_one c.close.result c.loop.self c.close.new.self c.loop.counter c.args.self.now.loops c.close.ensures.closes c.loop.invariant
