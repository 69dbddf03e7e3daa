use Rattle.tcl_expr.proofs.laws.reads_trees.Goals as goal
use Rattle.tcl_expr.proofs.Lexing.{reads_trees}

pub returns : goal.returns
returns c = reads_trees
