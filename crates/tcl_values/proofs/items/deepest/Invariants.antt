use Rattle.std.proofs.Common.{◌≡◌, take}
use Rattle.tcl_values.specs.Kept.{depth_over}
use Rattle.tcl_values.proofs.items.deepest.Given as goal

abbrev pub invariant-loop-element : goal.invariant-loop-element
invariant-loop-element l = l.depth ≡ depth_over (take l.element-index l.elements)
