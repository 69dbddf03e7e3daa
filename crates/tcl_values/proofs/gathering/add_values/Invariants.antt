use Rattle.std.proofs.Common.{◌≡◌, ◌≤◌, ◌++◌, take}
use Rattle.tcl_values.specs.Kept.{texts, depth_over}
use Rattle.tcl_values.proofs.gathering.add_values.Given as goal

abbrev pub invariant-loop-value : goal.invariant-loop-value
invariant-loop-value l = record {
  same : texts l.items.items ≡ texts l.fn.items.items ++ take l.value-index l.more;
  deeper : depth_over l.items.items ≤ l.deepest;
  limit : l.deepest ≤ 64;
}
