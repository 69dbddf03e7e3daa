use Rattle.tcl_laws.proofs.Indices.{other_is_no_index}
use Rattle.tcl_laws.proofs.laws.other_is_no_index.Goals as goal

pub returns : goal.returns
returns c = other_is_no_index
