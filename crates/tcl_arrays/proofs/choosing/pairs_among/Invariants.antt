use Rattle.std.proofs.Common.{◌≡◌, ◌++◌, option_map}
use Rattle.std.specs.Vec.Iter.{into_iter_items}
use Rattle.tcl_chars.specs.Texts.{text_of}
use Rattle.tcl_meaning.specs.Arrays.{pairs_among}
use Rattle.tcl_names.specs.Named.{by_text}
use Rattle.tcl_arrays.proofs.choosing.pairs_among.Given as goal

abbrev pub invariant-loop-name : goal.invariant-loop-name
invariant-loop-name l =
    l.found.items ++ pairs_among (option_map text_of l.pattern) (by_text (λ v. v.now) (into_iter_items l.name-iterator)) ≡ pairs_among (option_map text_of l.pattern) (by_text (λ v. v.now) (into_iter_items l.initial.name-iterator))
