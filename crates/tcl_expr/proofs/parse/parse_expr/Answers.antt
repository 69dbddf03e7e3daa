use Rattle.std.specs.Str.{chars}
use Rattle.tcl_expr.specs.View.{view, fault_view}
use Rattle.tcl_expr.proofs.Lexing.{tree_read, fault_read}
use Rattle.tcl_expr.proofs.parse.parse_expr.Goals as goal

pub returns-in-Ok-clause-grammar : goal.returns-in-Ok-clause-grammar
returns-in-Ok-clause-grammar c = tree_read c.args.dialect (chars c.args.text.now) (view c.in-Ok.tree) c.in-Ok.ensures

pub returns-in-Err-Bad-clause-grammar : goal.returns-in-Err-Bad-clause-grammar
returns-in-Err-Bad-clause-grammar c = let e = rw c.in-Err-Bad.field-0-is at c.in-Err-Bad.ensures in fault_read c.args.dialect (chars c.args.text.now) (fault_view c.in-Err-Bad.fault) e
