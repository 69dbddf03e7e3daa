use Rattle.std.proofs.Common.{◌≡◌, ◌++◌, take}
use Rattle.tcl_values.proofs.gathering.add_copies.Given as goal

abbrev pub invariant-loop-element : goal.invariant-loop-element
invariant-loop-element l = l.items.items ≡ l.fn.items.items ++ take l.element-index l.more
