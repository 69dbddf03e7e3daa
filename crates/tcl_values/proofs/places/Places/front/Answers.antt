use Rattle.std.proofs.Common.{sym, ap, subst, ◌∙◌, drop}
use Rattle.std.specs.Str.{chars}
use Rattle.tcl_chars.specs.Place.{EndsWith}
use Rattle.tcl_chars.proofs.Ends.{ends_drop}
use Rattle.tcl_values.proofs.places.Places.front.Goals as goal

pub before-requires : goal.before-requires
before-requires c = subst (EndsWith (chars c.self.inside.text.now)) (ap (drop c.args.place) c.self.view_is ∙ sym c.rest.ensures) (ends_drop c.args.place (chars c.self.inside.text.now))
