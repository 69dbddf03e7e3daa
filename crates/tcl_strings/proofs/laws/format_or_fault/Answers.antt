use Rattle.tcl_strings.proofs.FormatReading.{format_or_fault}
use Rattle.tcl_strings.proofs.laws.format_or_fault.Goals as goal

pub returns : goal.returns
returns c = format_or_fault
