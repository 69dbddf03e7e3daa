use Rattle.tcl_laws.proofs.ReturnOptions.{options_are_joined}
use Rattle.tcl_laws.proofs.laws.options_are_joined.Goals as goal

pub returns : goal.returns
returns c = options_are_joined
