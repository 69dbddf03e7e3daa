use Rattle.std.proofs.Common.{sym, subst}
use Rattle.std.specs.Str.{chars}
use Rattle.tcl_chars.specs.Place.{EndsWith}
use Rattle.tcl_glob.proofs.Sets.{ends_at_bracket}
use Rattle.tcl_glob.proofs.glob.first_part.Goals as goal

pub before-requires : goal.before-requires
before-requires c = subst (EndsWith (chars c.args.behind.now)) (sym c.to_bracket-rest.ensures) (ends_at_bracket (chars c.args.behind.now))
