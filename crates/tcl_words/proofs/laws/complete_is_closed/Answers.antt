use Rattle.tcl_words.proofs.CompleteClosed.{complete_is_closed}
use Rattle.tcl_words.proofs.laws.complete_is_closed.Goals as goal

pub returns : goal.returns
returns c = complete_is_closed
