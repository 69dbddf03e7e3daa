use Rattle.tcl_activation.proofs.Resuming.{collects}
use Rattle.tcl_activation.proofs.activation.Activation.end_collecting.Goals as goal

pub returns-then-collects-clause-steps : goal.returns-then-collects-clause-steps
returns-then-collects-clause-steps c = collects c.args.self.now c.collects.new.self c.requires.here c.requires.texts c.requires.lists c.requires.results c.if-collects.ensures
