use Rattle.tcl_strings.proofs.FieldArguments.{field_takes_its_arguments}
use Rattle.tcl_strings.proofs.laws.field_takes_its_arguments.Goals as goal

pub returns : goal.returns
returns c = field_takes_its_arguments
