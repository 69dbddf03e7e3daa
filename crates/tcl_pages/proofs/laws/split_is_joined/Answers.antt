use Rattle.tcl_pages.proofs.Splitting.{split_is_joined}
use Rattle.tcl_pages.proofs.laws.split_is_joined.Goals as goal

pub returns : goal.returns
returns c = split_is_joined
