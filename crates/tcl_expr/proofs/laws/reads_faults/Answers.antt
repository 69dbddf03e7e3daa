use Rattle.tcl_expr.proofs.laws.reads_faults.Goals as goal
use Rattle.tcl_expr.proofs.Lexing.{reads_faults}

pub returns : goal.returns
returns c = reads_faults
