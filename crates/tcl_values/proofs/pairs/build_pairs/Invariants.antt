use Rattle.std.proofs.Common.{◌≡◌, ◌≤◌, [], length, None}
use Rattle.tcl_values.specs.Kept.{texts, depth_over}
use Rattle.tcl_values.specs.Paired.{read_pairs}
use Rattle.tcl_values.specs.Shape.{pairs_in, ArePaired}
use Rattle.tcl_values.proofs.pairs.build_pairs.Given as goal

abbrev pub invariant-loop-key : goal.invariant-loop-key
invariant-loop-key l = record {
  same : read_pairs (pairs_in l.pairs) (texts l.rest) ≡ read_pairs [] (texts l.elements);
  within : depth_over l.rest ≤ depth_over l.elements;
  depth : l.pairs.depth ≤ depth_over l.elements;
  text : l.pairs.text ≡ None;
  kept : ArePaired l.pairs;
}

abbrev pub decreases-loop-key : goal.decreases-loop-key
decreases-loop-key l = length l.rest
