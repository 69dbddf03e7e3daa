use Rattle.tcl_strings.proofs.FormatReading.{one_format}
use Rattle.tcl_strings.proofs.laws.one_format.Goals as goal

pub returns : goal.returns
returns c = one_format
