use Rattle.tcl_strings.proofs.FieldReading.{field_is_read}
use Rattle.tcl_strings.proofs.laws.field_is_read.Goals as goal

pub returns : goal.returns
returns c = field_is_read
