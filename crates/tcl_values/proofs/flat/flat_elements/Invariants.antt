use Rattle.std.proofs.Common.{◌≡◌, ◌≤◌, take}
use Rattle.tcl_pages.specs.DictPages.{flat}
use Rattle.tcl_values.specs.Kept.{texts, depth_over}
use Rattle.tcl_values.specs.Paired.{zipped}
use Rattle.tcl_values.proofs.flat.flat_elements.Given as goal

abbrev pub invariant-loop-place : goal.invariant-loop-place
invariant-loop-place l = record {
  so_far : texts l.elements.items ≡ flat (zipped (take l.place l.pairs.keys.keys) (texts (take l.place l.pairs.values.items)));
  within : depth_over l.elements.items ≤ depth_over l.pairs.values.items;
}
