use Rattle.tcl_words.proofs.OneReading.{command_is_spelled}
use Rattle.tcl_words.proofs.laws.command_is_spelled.Goals as goal

pub returns : goal.returns
returns c = command_is_spelled
