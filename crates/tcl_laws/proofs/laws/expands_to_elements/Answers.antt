use Rattle.tcl_laws.proofs.ListWords.{expands_to_elements}
use Rattle.tcl_laws.proofs.laws.expands_to_elements.Goals as goal

pub returns : goal.returns
returns c = expands_to_elements
