use Rattle.std.proofs.Common.{◌≡◌, option_map, take}
use Rattle.std.specs.List.{filter}
use Rattle.tcl_chars.specs.Texts.{text_of}
use Rattle.tcl_pages.specs.DictPages.{passes}
use Rattle.tcl_values.specs.Kept.{texts}
use Rattle.tcl_dicts.proofs.matching.matching_values.Given as goal

abbrev pub invariant-loop-value : goal.invariant-loop-value
invariant-loop-value l = l.found.items ≡ filter (passes (option_map text_of l.pattern)) (texts (take l.value-index l.values))
