use Rattle.tcl_expr.proofs.Suffix.{ends_behind_space}
use Rattle.tcl_expr.proofs.tokens.next_token.Goals as goal

pub operand_token-requires-clause-ends : goal.operand_token-requires-clause-ends
operand_token-requires-clause-ends c = ends_behind_space _ _ _ c.requires.ends c.skip_space-here.ensures
