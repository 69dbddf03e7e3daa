use Rattle.tcl_strings.proofs.FieldReading.{unended_is_beginning}
use Rattle.tcl_strings.proofs.laws.unended_is_beginning.Goals as goal

pub returns : goal.returns
returns c = unended_is_beginning
