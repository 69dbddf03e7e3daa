use Rattle.tcl_list.proofs.Spelled.{written_is_spelled}
use Rattle.tcl_list.proofs.laws.written_is_spelled.Goals as goal

pub returns : goal.returns
returns c = written_is_spelled
