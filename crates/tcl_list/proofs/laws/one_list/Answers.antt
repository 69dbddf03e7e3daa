use Rattle.tcl_list.proofs.OneList.{one_list}
use Rattle.tcl_list.proofs.laws.one_list.Goals as goal

pub returns : goal.returns
returns c = one_list
