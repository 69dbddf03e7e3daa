use Rattle.tcl_words.proofs.FaultFronts.{fault_at_front}
use Rattle.tcl_words.proofs.laws.fault_at_front.Goals as goal

pub returns : goal.returns
returns c = fault_at_front
