use Rattle.std.proofs.Common.{◌≡◌, ◌++◌, map as each}
use Rattle.std.specs.Map.{keys_of}
use Rattle.std.specs.Vec.Iter.{into_iter_items}
use Rattle.tcl_names.specs.Named.{text_of}
use Rattle.tcl_names.proofs.hashed.HashedNames.names.Given as goal

abbrev pub invariant-loop-name : goal.invariant-loop-name
invariant-loop-name g l =
    each text_of l.names.items ++ each text_of (keys_of (into_iter_items l.name-iterator)) ≡ each text_of (keys_of (into_iter_items l.initial.name-iterator))
