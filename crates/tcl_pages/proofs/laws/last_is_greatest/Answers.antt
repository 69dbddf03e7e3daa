use Rattle.tcl_pages.proofs.LastPlace.{last_is_greatest}
use Rattle.tcl_pages.proofs.laws.last_is_greatest.Goals as goal

pub returns : goal.returns
returns c = last_is_greatest
