use Rattle.tcl_vm.proofs.Stuck.{valid_goes_on}
use Rattle.tcl_vm.proofs.laws.valid_goes_on.Goals as goal

pub returns : goal.returns
returns c = valid_goes_on
