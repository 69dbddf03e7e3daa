use Rattle.tcl_pages.proofs.Sorting.{unique_is_last}
use Rattle.tcl_pages.proofs.laws.unique_is_last.Goals as goal

pub returns : goal.returns
returns c = record { texts = unique_is_last _; numbers = unique_is_last _ }
