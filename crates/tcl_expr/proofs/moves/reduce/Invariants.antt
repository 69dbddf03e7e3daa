use Rattle.std.proofs.Common.{◌≡◌, length}
use Rattle.tcl_expr.specs.Machine.{reduce}
use Rattle.tcl_expr.specs.View.{view, stack_of}
use Rattle.tcl_expr.proofs.moves.reduce.Given as goal

abbrev pub invariant-frames : goal.invariant-frames
invariant-frames l = reduce l.reach (view l.x) (stack_of l.stack.frames.items) ≡ reduce l.fn.reach (view l.fn.x) (stack_of l.fn.stack.frames.items)

abbrev pub decreases-frames : goal.decreases-frames
decreases-frames l = length (stack_of l.stack.frames.items)
