use Rattle.tcl_vm.proofs.Single as single
use Rattle.tcl_vm.proofs.laws.comes_to_one.Goals as goal

pub returns : goal.returns
returns c = single.comes_to_one
