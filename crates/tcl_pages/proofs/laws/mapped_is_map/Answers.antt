use Rattle.tcl_pages.proofs.Mapping.{mapped_is_map}
use Rattle.tcl_pages.proofs.laws.mapped_is_map.Goals as goal

pub returns : goal.returns
returns c = mapped_is_map
