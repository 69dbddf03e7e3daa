use Rattle.std.proofs.Common.{◌≡◌}
use Rattle.std.specs.Vec.Iter.{into_iter_items}
use Rattle.tcl_pages.specs.Dictionaries.{put_keys}
use Rattle.tcl_dicts.proofs.build.with_values.Given as goal

abbrev pub invariant-loop-key : goal.invariant-loop-key
invariant-loop-key l = put_keys l.found (into_iter_items l.key-iterator) ≡ put_keys l.fn.found l.fn.pairs.items
