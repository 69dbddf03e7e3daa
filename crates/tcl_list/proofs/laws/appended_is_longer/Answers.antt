use Rattle.tcl_list.proofs.Joining.{appended_is_longer}
use Rattle.tcl_list.proofs.laws.appended_is_longer.Goals as goal

pub returns : goal.returns
returns c = appended_is_longer
