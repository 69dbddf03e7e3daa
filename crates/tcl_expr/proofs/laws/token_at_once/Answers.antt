use Rattle.tcl_expr.proofs.laws.token_at_once.Goals as goal
use Rattle.tcl_expr.proofs.SpelledTokens.{token_at_once}

pub returns : goal.returns
returns c = token_at_once
