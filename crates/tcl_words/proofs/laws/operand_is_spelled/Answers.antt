use Rattle.tcl_words.proofs.OperandSpelled.{operand_is_spelled}
use Rattle.tcl_words.proofs.laws.operand_is_spelled.Goals as goal

pub returns : goal.returns
returns c = operand_is_spelled
