use Rattle.tcl_values.proofs.Beginnings.{ascii_rest, ascii_end}
use Rattle.tcl_values.proofs.Growth.{when_true, bytes_of_known}
use Rattle.tcl_values.proofs.places.Places.rest.Goals as goal

pub returns-then-place-self : goal.returns-then-place-self
returns-then-place-self c = ascii_end _ _ c.args.place (bytes_of_known _ _ (when_true _ _ c.if-not-self.false c.self.invariant.ascii) c.self.view_is) c.if-place-self.true

pub returns : goal.returns
returns c = ascii_rest _ _ _ c.args.place (when_true _ _ c.if-not-self.false c.self.invariant.ascii) c.self.view_is c.range_from.ensures.value
