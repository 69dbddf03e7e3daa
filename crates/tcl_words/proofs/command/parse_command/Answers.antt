use Rattle.std.proofs.Common.{sym, subst}
use Rattle.std.specs.Str.{chars}
use Rattle.tcl_chars.specs.Place.{EndsWith}
use Rattle.tcl_words.proofs.Placed.{rest_ends}
use Rattle.tcl_words.proofs.command.parse_command.Goals as goal

pub parse-requires-clause-ends : goal.parse-requires-clause-ends
parse-requires-clause-ends c =
    subst (λ t. EndsWith (chars c.args.text.now) (chars t)) (sym c.range_from.ensures.value) (rest_ends c.args.text.now c.args.from c.utf8.text c.requires)
