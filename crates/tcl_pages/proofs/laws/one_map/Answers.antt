use Rattle.tcl_pages.proofs.Mapping.{one_map}
use Rattle.tcl_pages.proofs.laws.one_map.Goals as goal

pub returns : goal.returns
returns c = one_map
