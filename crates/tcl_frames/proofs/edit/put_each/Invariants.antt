use Rattle.std.proofs.Common.{◌≡◌, ◌≤◌, ◌-◌, drop, length}
use Rattle.tcl_frames.specs.Edits.{with_pairs}
use Rattle.tcl_frames.specs.Undone.{undone}
use Rattle.tcl_values.specs.Kept.{texts}
use Rattle.tcl_frames.proofs.edit.put_each.Given as goal

abbrev pub invariant-loop-place : goal.invariant-loop-place
invariant-loop-place l = record {
  within : l.place ≤ length l.pairs;
  rest : with_pairs l.elements (drop l.place (texts l.pairs)) ≡ with_pairs l.fn.elements (texts l.pairs);
  noted : undone l.notes.items l.elements ≡ undone l.fn.notes.items l.fn.elements;
}

abbrev pub decreases-loop-place : goal.decreases-loop-place
decreases-loop-place l = length l.pairs - l.place
