use Rattle.tcl_laws.proofs.ListCalls.{eval_is_called}
use Rattle.tcl_laws.proofs.laws.eval_is_called.Goals as goal

pub returns : goal.returns
returns c = eval_is_called
