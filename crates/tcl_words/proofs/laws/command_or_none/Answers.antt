use Rattle.tcl_words.proofs.OneReading.{command_or_none}
use Rattle.tcl_words.proofs.laws.command_or_none.Goals as goal

pub returns : goal.returns
returns c = command_or_none
