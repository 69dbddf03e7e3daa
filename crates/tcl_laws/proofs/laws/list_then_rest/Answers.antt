use Rattle.tcl_laws.proofs.ListCalls.{list_then_rest}
use Rattle.tcl_laws.proofs.laws.list_then_rest.Goals as goal

pub returns : goal.returns
returns c = list_then_rest
