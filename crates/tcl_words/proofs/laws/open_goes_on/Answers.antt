use Rattle.tcl_words.proofs.FaultFronts.{open_goes_on}
use Rattle.tcl_words.proofs.laws.open_goes_on.Goals as goal

pub returns : goal.returns
returns c = open_goes_on
