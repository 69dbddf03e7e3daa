use Rattle.std.proofs.Common.{◌≡◌, ◌≤◌, ◌++◌, max}
use Rattle.tcl_pages.specs.Lists.{times}
use Rattle.tcl_values.specs.Kept.{texts, depth_over}
use Rattle.tcl_values.proofs.gathering.add_times.Given as goal

abbrev pub invariant-loop-done : goal.invariant-loop-done
invariant-loop-done l = record {
  same : texts l.items.items ≡ texts l.fn.items.items ++ times l.done (texts l.more);
  deeper : depth_over l.items.items ≤ max (depth_over l.fn.items.items) (depth_over l.more);
}
