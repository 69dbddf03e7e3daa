use Rattle.tcl_run.proofs.Starting.{starts}
use Rattle.tcl_run.proofs.scripts.start.Goals as goal
