use Rattle.std.proofs.Common.{◌≡◌, reverse}
use Rattle.std.specs.Vec.Iter.{into_iter_items}
use Rattle.tcl_pages.specs.Answers.{◌>>=◌}
use Rattle.tcl_pages.specs.DictPages.{dict_set}
use Rattle.tcl_dicts.specs.Levels.{rebuilt}
use Rattle.tcl_dicts.proofs.paths.with_value.Given as goal

abbrev pub invariant-loop-key : goal.invariant-loop-key
invariant-loop-key l = (dict_set l.level l.fn.value (into_iter_items l.key-iterator) >>= rebuilt (reverse l.levels.items)) ≡ dict_set l.fn.start l.fn.value l.fn.keys.items
