use Rattle.std.proofs.Common.{◌≡◌, option_map, take}
use Rattle.std.specs.List.{filter}
use Rattle.tcl_chars.specs.Texts.{text_of}
use Rattle.tcl_pages.specs.DictPages.{passes}
use Rattle.tcl_dicts.proofs.matching.matching_keys.Given as goal

abbrev pub invariant-loop-key : goal.invariant-loop-key
invariant-loop-key l = l.found.items ≡ filter (passes (option_map text_of l.pattern)) (take l.key-index l.keys)
