use Rattle.tcl_laws.proofs.ListWords.{next_words_are_elements}
use Rattle.tcl_laws.proofs.laws.next_words_are_elements.Goals as goal

pub returns : goal.returns
returns c = next_words_are_elements
