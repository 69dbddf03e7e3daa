use Rattle.tcl_pages.proofs.Sorting.{sorted_is_stable}
use Rattle.tcl_pages.proofs.laws.sorted_is_stable.Goals as goal

pub returns : goal.returns
returns c = record { texts = sorted_is_stable _; numbers = sorted_is_stable _ }
