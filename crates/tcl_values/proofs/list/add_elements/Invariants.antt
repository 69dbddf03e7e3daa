use Rattle.std.proofs.Common.{◌≡◌, ◌++◌, take}
use Rattle.tcl_values.specs.Kept.{texts}
use Rattle.tcl_values.proofs.list.add_elements.Given as goal

abbrev pub invariant-loop-element : goal.invariant-loop-element
invariant-loop-element l = l.values.items ≡ l.fn.values.items ++ texts (take l.element-index l.elements)
