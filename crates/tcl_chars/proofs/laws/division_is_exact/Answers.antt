use Rattle.tcl_chars.proofs.Division.{division_is_exact}
use Rattle.tcl_chars.proofs.laws.division_is_exact.Goals as goal

pub returns : goal.returns
returns c = division_is_exact
