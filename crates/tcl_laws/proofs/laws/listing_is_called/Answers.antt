use Rattle.tcl_laws.proofs.ListCalls.{listing_is_called}
use Rattle.tcl_laws.proofs.laws.listing_is_called.Goals as goal

pub returns : goal.returns
returns c = listing_is_called
