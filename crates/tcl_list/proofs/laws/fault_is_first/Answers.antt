use Rattle.tcl_list.proofs.OneList.{fault_is_first}
use Rattle.tcl_list.proofs.laws.fault_is_first.Goals as goal

pub returns : goal.returns
returns c = fault_is_first
