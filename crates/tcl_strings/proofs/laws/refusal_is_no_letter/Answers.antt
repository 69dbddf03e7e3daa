use Rattle.tcl_strings.proofs.FieldReading.{refusal_is_no_letter}
use Rattle.tcl_strings.proofs.laws.refusal_is_no_letter.Goals as goal

pub returns : goal.returns
returns c = refusal_is_no_letter
