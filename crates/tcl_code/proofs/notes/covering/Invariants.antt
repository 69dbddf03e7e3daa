use Rattle.std.proofs.Common.{◌≡◌, ◌<◌, ℕ, Some}
use Rattle.std.specs.Prelude.{slice_get}
use Rattle.tcl_code.specs.Valid.{IsWithin}
use Rattle.tcl_code.specs.declared.shape.Shape.{Shape}
use Rattle.tcl_code.proofs.notes.covering.Given as goal

abbrev pub invariant-loop-shape : goal.invariant-loop-shape
invariant-loop-shape l = (p : ℕ) (s : Shape) → p < l.shape-index → slice_get l.shapes p ≡ Some s → IsWithin s l.top
