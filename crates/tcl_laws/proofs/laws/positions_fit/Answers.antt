use Rattle.tcl_laws.proofs.Indices.{positions_fit}
use Rattle.tcl_laws.proofs.laws.positions_fit.Goals as goal

pub returns : goal.returns
returns c = positions_fit
