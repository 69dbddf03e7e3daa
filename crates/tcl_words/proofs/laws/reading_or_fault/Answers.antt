use Rattle.tcl_words.proofs.OneReading.{reading_or_fault}
use Rattle.tcl_words.proofs.laws.reading_or_fault.Goals as goal

pub returns : goal.returns
returns c = reading_or_fault
