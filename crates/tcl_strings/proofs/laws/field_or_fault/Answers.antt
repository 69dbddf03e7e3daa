use Rattle.tcl_strings.proofs.FieldReading.{field_or_fault}
use Rattle.tcl_strings.proofs.laws.field_or_fault.Goals as goal

pub returns : goal.returns
returns c = field_or_fault
