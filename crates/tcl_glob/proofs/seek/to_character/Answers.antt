use Rattle.std.proofs.Common.{ap, ◌∙◌}
use Rattle.std.specs.Str.{chars}
use Rattle.tcl_glob.proofs.FirstPlace.{found_first, not_found}
use Rattle.tcl_glob.proofs.seek.to_character.Goals as goal

pub returns-in-Some : goal.returns-in-Some
returns-in-Some c =
    let found = c.in-Some.ensures.cases in
    ap chars c.range_from.ensures.value ∙ found_first c.args.wanted c.args.text.now c.in-Some.place found.0 c.utf8.text found.3 found.1.0 found.1.1

pub returns-in-None : goal.returns-in-None
returns-in-None c = not_found c.args.wanted c.args.text.now c.utf8.text c.in-None.ensures.cases
