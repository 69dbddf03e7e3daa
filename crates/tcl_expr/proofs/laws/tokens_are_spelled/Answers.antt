use Rattle.tcl_expr.proofs.laws.tokens_are_spelled.Goals as goal
use Rattle.tcl_expr.proofs.SpelledLists.{tokens_are_spelled}

pub returns : goal.returns
returns c = tokens_are_spelled
