use Rattle.tcl_laws.proofs.Indices.{large_is_spelled}
use Rattle.tcl_laws.proofs.laws.large_is_spelled.Goals as goal

pub returns : goal.returns
returns c = large_is_spelled
