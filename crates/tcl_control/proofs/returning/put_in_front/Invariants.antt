use Rattle.std.proofs.Common.{◌≡◌, ◌≤◌, ◌++◌, drop, length}
use Rattle.tcl_control.proofs.returning.put_in_front.Given as goal

abbrev pub invariant-pairs : goal.invariant-pairs
invariant-pairs l = record {
  within : l.left ≤ length l.more;
  items : l.options.items ≡ drop l.left l.more ++ l.fn.options.items;
}

abbrev pub decreases-pairs : goal.decreases-pairs
decreases-pairs l = l.left
