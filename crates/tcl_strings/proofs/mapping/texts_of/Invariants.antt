use Rattle.std.proofs.Common.{◌≡◌, take}
use Rattle.tcl_values.specs.Kept.{texts}
use Rattle.tcl_strings.proofs.mapping.texts_of.Given as goal

abbrev pub invariant-loop-element : goal.invariant-loop-element
invariant-loop-element l = l.texts.items ≡ texts (take l.element-index l.elements)
