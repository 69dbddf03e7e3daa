use Rattle.std.proofs.Common.{ap, ◌∙◌}
use Rattle.tcl_names.specs.Placed.{placed}
use Rattle.tcl_names.specs.Places.{names_in, values_in}
use Rattle.tcl_names.proofs.Held.{as_many}
use Rattle.tcl_names.proofs.Places.{placed_nothing}
use Rattle.tcl_names.proofs.placed.PlacedNames.new.Goals as goal

pub returns : goal.returns
returns g c =
    let ps = c.loop-name.places.items in
    ap (placed (names_in ps) (values_in ps)) c.new.ensures ∙ placed_nothing (names_in ps) (values_in ps) (as_many ps) c.loop-name.invariant.1
