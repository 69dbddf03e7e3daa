use Rattle.std.proofs.Common.{◌≡◌, ◌++◌, map as each, option_map}
use Rattle.std.specs.Vec.Iter.{into_iter_items}
use Rattle.tcl_chars.specs.Texts.{text_of}
use Rattle.tcl_meaning.specs.Arrays.{names_among}
use Rattle.tcl_names.specs.Named.{by_text}
use Rattle.tcl_arrays.proofs.choosing.names_among.Given as goal

abbrev pub invariant-loop-name : goal.invariant-loop-name
invariant-loop-name l =
    each text_of l.found.items ++ names_among (option_map text_of l.pattern) (by_text (λ v. v.now) (into_iter_items l.name-iterator)) ≡ names_among (option_map text_of l.pattern) (by_text (λ v. v.now) (into_iter_items l.initial.name-iterator))
