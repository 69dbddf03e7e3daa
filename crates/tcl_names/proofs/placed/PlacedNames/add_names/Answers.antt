use Rattle.std.proofs.Common.{ap}
use Rattle.tcl_names.specs.Places.{names_in, values_in}
use Rattle.tcl_names.proofs.Held.{as_many}
use Rattle.tcl_names.proofs.Present.{names_added}
use Rattle.tcl_names.proofs.placed.PlacedNames.add_names.Goals as goal

pub returns : goal.returns
returns g c =
    let ps = c.self.inside.places.items in
    names_added c.add_others.result (names_in ps) _ (values_in ps) c.self.inside.others c.args.self.now c.args.names.now c.add_placed.new.names c.add_others.new.names (as_many ps) c.self.view_is (ap names_in c.deref.ensures.value) c.in_ok-add_placed.ensures c.add_others.ensures
