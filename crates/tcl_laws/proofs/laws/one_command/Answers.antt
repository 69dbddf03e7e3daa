use Rattle.tcl_laws.proofs.OneCommand.{one_command}
use Rattle.tcl_laws.proofs.laws.one_command.Goals as goal

pub returns : goal.returns
returns c = one_command
