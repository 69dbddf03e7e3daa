use Rattle.tcl_words.proofs.OneReading.{none_is_spelled}
use Rattle.tcl_words.proofs.laws.none_is_spelled.Goals as goal

pub returns : goal.returns
returns c = none_is_spelled
