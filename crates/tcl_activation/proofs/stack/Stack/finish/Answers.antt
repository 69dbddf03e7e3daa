use Rattle.tcl_activation.proofs.Ending.{ended_so}
use Rattle.tcl_activation.proofs.stack.Stack.finish.Goals as goal

pub returns : goal.returns
returns c = ended_so _ _ _ _ _ _ _ _ c.into_completion.ensures c.requires.texts c.requires.lists c.requires.results c.requires.loops c.pop.ensures
