use Rattle.tcl_list.proofs.OneList.{reading_or_fault}
use Rattle.tcl_list.proofs.laws.reading_or_fault.Goals as goal

pub returns : goal.returns
returns c = reading_or_fault
