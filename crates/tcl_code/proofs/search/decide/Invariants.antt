use Rattle.std.proofs.Common.{◌≡◌, ◌+◌, Some, length}
use Rattle.tcl_code.specs.Search.{shape_at, Sound, Closed, left_over}
use Rattle.tcl_code.specs.Shown.{instructions, no_texts}
use Rattle.tcl_code.specs.Valid.{bare}
use Rattle.tcl_code.proofs.search.decide.Given as goal

abbrev pub invariant-loop-place : goal.invariant-loop-place
invariant-loop-place l = record {
  at : shape_at l.search.shapes 0 ≡ Some bare;
  sound : Sound (instructions no_texts l.code) l.search.shapes;
  closed : Closed (instructions no_texts l.code) l.search.shapes l.search.pending.items;
  long : length l.search.shapes ≡ length l.code + 1;
}

abbrev pub decreases-loop-place : goal.decreases-loop-place
decreases-loop-place l = left_over l.search.shapes l.search.pending.items
