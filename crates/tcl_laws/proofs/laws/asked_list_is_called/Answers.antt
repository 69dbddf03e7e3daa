use Rattle.tcl_laws.proofs.ListCalls.{asked_list_is_called}
use Rattle.tcl_laws.proofs.laws.asked_list_is_called.Goals as goal

pub returns : goal.returns
returns c = asked_list_is_called
