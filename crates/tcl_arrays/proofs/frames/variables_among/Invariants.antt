use Rattle.std.proofs.Common.{◌≡◌, ◌++◌, map as each, option_map}
use Rattle.std.specs.FinMap as map
use Rattle.tcl_chars.specs.Texts.{text_of}
use Rattle.tcl_frames.specs.Standing.{store_of}
use Rattle.tcl_meaning.specs.SeenPages.{variables_among}
use Rattle.tcl_names.specs.Named.{by_text}
use Rattle.tcl_arrays.proofs.frames.variables_among.Given as goal

abbrev pub invariant-loop-name : goal.invariant-loop-name
invariant-loop-name l =
    each text_of l.found.items ++ variables_among (store_of map.empty l.frames) (option_map text_of l.pattern) (by_text (λ v. v) l.name-iterator)
    ≡ variables_among (store_of map.empty l.frames) (option_map text_of l.pattern) (by_text (λ v. v) l.initial.name-iterator)
