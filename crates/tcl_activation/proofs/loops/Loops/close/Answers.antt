use Rattle.std.proofs.Common.{arith}
use Rattle.std.proofs.lemmas.Grind.{common_steps}
use Rattle.tcl_activation.proofs.loops.Loops.close.Goals as goal

pub returns-clause-saved : goal.returns-clause-saved
returns-clause-saved c = (c.index_mut.result.now.passes, grind (arith, common_steps))
