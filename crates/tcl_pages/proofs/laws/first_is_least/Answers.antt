use Rattle.tcl_pages.proofs.FirstPlace.{first_is_least}
use Rattle.tcl_pages.proofs.laws.first_is_least.Goals as goal

pub returns : goal.returns
returns c = first_is_least
