use Rattle.tcl_words.proofs.OneReading.{one_command}
use Rattle.tcl_words.proofs.laws.one_command.Goals as goal

pub returns : goal.returns
returns c = one_command
