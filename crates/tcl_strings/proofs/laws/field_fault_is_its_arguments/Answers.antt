use Rattle.tcl_strings.proofs.FieldArguments.{field_fault_is_its_arguments}
use Rattle.tcl_strings.proofs.laws.field_fault_is_its_arguments.Goals as goal

pub returns : goal.returns
returns c = field_fault_is_its_arguments
