use Rattle.std.proofs.Common.{ap, subst, sym, ◌∙◌}
use Rattle.std.specs.Str.{chars}
use Rattle.tcl_chars.specs.Index.{to_sign}
use Rattle.tcl_chars.specs.Place.{EndsWith}
use Rattle.tcl_chars.proofs.IndicesLemmas.{sum_ends}
use Rattle.tcl_chars.proofs.indices.read_sum.Goals as goal

pub before-requires : goal.before-requires
before-requires c = subst (EndsWith (chars c.args.text.now)) (sym (c.to_sign-rest.ensures ∙ ap to_sign c.tail.ensures)) (sum_ends (chars c.args.text.now))
