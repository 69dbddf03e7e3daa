use Rattle.tcl_laws.proofs.ListWords.{words_are_elements}
use Rattle.tcl_laws.proofs.laws.words_are_elements.Goals as goal

pub returns : goal.returns
returns c = words_are_elements
