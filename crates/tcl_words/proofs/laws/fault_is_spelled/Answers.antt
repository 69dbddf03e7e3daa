use Rattle.tcl_words.proofs.OneReading.{fault_is_spelled}
use Rattle.tcl_words.proofs.laws.fault_is_spelled.Goals as goal

pub returns : goal.returns
returns c = fault_is_spelled
