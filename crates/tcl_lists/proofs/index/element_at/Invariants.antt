use Rattle.std.proofs.Common.{◌≡◌, drop}
use Rattle.tcl_pages.specs.Lists.{element_at}
use Rattle.tcl_lists.proofs.index.element_at.Given as goal

abbrev pub invariant-loop-place : goal.invariant-loop-place
invariant-loop-place l = record {
  same : l.indices ≡ l.fn.indices;
  led : element_at l.dialect l.element (drop l.place l.fn.indices) ≡ element_at l.dialect l.fn.list (drop l.fn.first l.fn.indices);
}
