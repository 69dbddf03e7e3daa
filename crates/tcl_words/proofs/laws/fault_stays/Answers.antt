use Rattle.tcl_words.proofs.FaultFronts.{fault_stays}
use Rattle.tcl_words.proofs.laws.fault_stays.Goals as goal

pub returns : goal.returns
returns c = fault_stays
