use Rattle.std.proofs.Common.{sym}
use Rattle.std.specs.Str.{chars}
use Rattle.tcl_values.proofs.PairPlaces.{found_there, found_nowhere}
use Rattle.tcl_values.proofs.pairs.find_pair.Goals as goal

pub returns-in-Some : goal.returns-in-Some
returns-in-Some c = found_there (chars c.args.key.now) c.args.pairs.now.keys.keys c.args.pairs.now.values.items c.requires c.index.result.now c.in-Some.place c.in-Some.ensures.index c.index.ensures

pub returns-in-None : goal.returns-in-None
returns-in-None c = found_nowhere (chars c.args.key.now) c.args.pairs.now.keys.keys c.args.pairs.now.values.items c.requires (sym c.in-None.ensures.found)
