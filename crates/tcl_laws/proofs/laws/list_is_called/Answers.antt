use Rattle.tcl_laws.proofs.ListCalls.{list_is_called}
use Rattle.tcl_laws.proofs.laws.list_is_called.Goals as goal

pub returns : goal.returns
returns c = list_is_called
