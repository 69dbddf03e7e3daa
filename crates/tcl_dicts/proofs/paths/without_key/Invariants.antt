use Rattle.std.proofs.Common.{◌≡◌, ◌++◌, ◌∷◌, [], reverse}
use Rattle.std.specs.Vec.Iter.{into_iter_items}
use Rattle.tcl_pages.specs.Answers.{◌>>=◌}
use Rattle.tcl_pages.specs.DictPages.{dict_unset}
use Rattle.tcl_dicts.specs.Levels.{rebuilt}
use Rattle.tcl_dicts.proofs.paths.without_key.Given as goal

abbrev pub invariant-loop-key : goal.invariant-loop-key
invariant-loop-key l = (dict_unset l.level (into_iter_items l.key-iterator ++ l.fn.last ∷ []) >>= rebuilt (reverse l.levels.items)) ≡ dict_unset l.fn.start (l.fn.keys.items ++ l.fn.last ∷ [])
