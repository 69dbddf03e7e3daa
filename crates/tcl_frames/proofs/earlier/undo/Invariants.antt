use Rattle.std.proofs.Common.{◌≡◌, length}
use Rattle.tcl_frames.specs.Undone.{undone}
use Rattle.tcl_frames.proofs.earlier.undo.Given as goal

abbrev pub invariant-loop-earlier : goal.invariant-loop-earlier
invariant-loop-earlier l = undone l.notes.items l.elements ≡ undone l.initial.notes.items l.initial.elements

abbrev pub decreases-loop-earlier : goal.decreases-loop-earlier
decreases-loop-earlier l = length l.notes.items
