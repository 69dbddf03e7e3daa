use Rattle.tcl_chars.proofs.SpelledIndices.{index_is_spelled}
use Rattle.tcl_chars.proofs.laws.index_is_spelled.Goals as goal

pub returns : goal.returns
returns c = index_is_spelled
