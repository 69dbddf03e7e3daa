use Rattle.tcl_expr.proofs.Suffix.{ends_behind_run, ends_behind_signed}
use Rattle.tcl_expr.proofs.tokens.operand_token.Goals as goal

pub run_token-requires : goal.run_token-requires
run_token-requires c = ends_behind_signed _ _ _ _ c.in-Some.ensures.parts.in_chars c.after_run.ensures

pub run_token-requires-then-begins_run : goal.run_token-requires-then-begins_run
run_token-requires-then-begins_run c = ends_behind_run _ _ c.after_run-then-begins_run.ensures
