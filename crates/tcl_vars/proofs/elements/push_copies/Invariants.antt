use Rattle.std.proofs.Common.{◌≡◌, ◌++◌, take}
use Rattle.tcl_vars.proofs.elements.push_copies.Given as goal

abbrev pub invariant-loop-value : goal.invariant-loop-value
invariant-loop-value l = l.copies.items ≡ l.fn.copies.items ++ take l.value-index l.values
