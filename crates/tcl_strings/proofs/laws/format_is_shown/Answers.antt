use Rattle.tcl_strings.proofs.FormatReading.{format_is_shown}
use Rattle.tcl_strings.proofs.laws.format_is_shown.Goals as goal

pub returns : goal.returns
returns c = format_is_shown
