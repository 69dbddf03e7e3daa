use Rattle.std.proofs.Common.{◌≡◌}
use Rattle.std.specs.Vec.Iter.{into_iter_items}
use Rattle.tcl_dicts.specs.Levels.{rebuilt}
use Rattle.tcl_dicts.proofs.paths.put_back.Given as goal

abbrev pub invariant-loop-level : goal.invariant-loop-level
invariant-loop-level l = rebuilt (into_iter_items l.level-iterator) l.value ≡ rebuilt l.fn.levels.items l.fn.value
