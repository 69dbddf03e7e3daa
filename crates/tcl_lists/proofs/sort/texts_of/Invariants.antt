use Rattle.std.proofs.Common.{◌≡◌, ◌++◌, drop}
use Rattle.tcl_values.specs.Kept.{texts}
use Rattle.tcl_lists.proofs.sort.texts_of.Given as goal

abbrev pub invariant-loop-element : goal.invariant-loop-element
invariant-loop-element l = l.all.items ++ texts (drop l.element-index l.elements) ≡ texts l.elements
