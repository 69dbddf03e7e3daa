use Rattle.tcl_strings.proofs.FormatReading.{format_fault_is_first}
use Rattle.tcl_strings.proofs.laws.format_fault_is_first.Goals as goal

pub returns : goal.returns
returns c = format_fault_is_first
