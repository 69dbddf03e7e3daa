use Rattle.std.proofs.Common.{◌≡◌, map as each, take}
use Rattle.tcl_chars.specs.Texts.{text_of}
use Rattle.tcl_arrays.proofs.choosing.list_of.Given as goal

abbrev pub invariant-loop-name : goal.invariant-loop-name
invariant-loop-name l = l.items.items ≡ each text_of (take l.name-index l.names)
