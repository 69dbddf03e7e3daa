use Rattle.tcl_expr.proofs.Suffix.{ends_behind_run}
use Rattle.tcl_expr.proofs.tokens.operator_token.Goals as goal

pub before-requires : goal.before-requires
before-requires c = ends_behind_run _ _ c.after_run-rest.ensures
