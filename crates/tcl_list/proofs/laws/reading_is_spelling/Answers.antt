use Rattle.tcl_list.proofs.OneList.{reading_is_spelling}
use Rattle.tcl_list.proofs.laws.reading_is_spelling.Goals as goal

pub returns : goal.returns
returns c = reading_is_spelling
