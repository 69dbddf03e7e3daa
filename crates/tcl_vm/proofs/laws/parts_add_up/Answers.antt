use Rattle.tcl_vm.proofs.Adding as adding
use Rattle.tcl_vm.proofs.laws.parts_add_up.Goals as goal

pub returns : goal.returns
returns c = adding.parts_add_up
