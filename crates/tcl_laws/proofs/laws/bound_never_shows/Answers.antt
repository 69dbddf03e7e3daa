use Rattle.tcl_laws.proofs.ReturnOptions.{bound_never_shows}
use Rattle.tcl_laws.proofs.laws.bound_never_shows.Goals as goal

pub returns : goal.returns
returns c = bound_never_shows
