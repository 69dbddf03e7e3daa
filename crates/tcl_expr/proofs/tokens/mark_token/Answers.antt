use Rattle.tcl_expr.proofs.Suffix.{ends_behind_first}
use Rattle.tcl_expr.proofs.tokens.mark_token.Goals as goal

pub span-requires : goal.span-requires
span-requires c = ends_behind_first _ _ c.args.c c.requires.in_chars
