use Rattle.tcl_expr.proofs.laws.one_token_list.Goals as goal
use Rattle.tcl_expr.proofs.SpelledLists.{one_token_list}

pub returns : goal.returns
returns c = one_token_list
