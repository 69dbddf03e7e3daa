use Rattle.tcl_meaning.proofs.Towers.{place_ends, place_down}
use Rattle.tcl_meaning.proofs.laws.names_lead_to_places.Goals as goal

pub returns : goal.returns
returns c = λ fs tower p. (place_ends fs tower p, place_down fs tower p)
