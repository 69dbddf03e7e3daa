use Rattle.tcl_strings.proofs.FieldReading.{one_field}
use Rattle.tcl_strings.proofs.laws.one_field.Goals as goal

pub returns : goal.returns
returns c = one_field
