use Rattle.tcl_laws.proofs.OneCommand.{next_command}
use Rattle.tcl_laws.proofs.laws.next_command.Goals as goal

pub returns : goal.returns
returns c = next_command
