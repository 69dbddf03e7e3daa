use Rattle.std.proofs.Common.{◌≡◌}
use Rattle.tcl_meaning.specs.Control.{behind_turns}
use Rattle.tcl_steps.specs.Views.{loop_lists_of}
use Rattle.tcl_each.proofs.MovingLemmas.{moved}
use Rattle.tcl_each.proofs.moving.move_lists.Given as goal

abbrev pub invariant-loop-list : goal.invariant-loop-list
invariant-loop-list l = moved l.list-index l.lists ≡ behind_turns (loop_lists_of l.fn.lists)
