use Rattle.std.proofs.Common.{◌≡◌, drop}
use Rattle.tcl_meaning.specs.Control.{has_more}
use Rattle.tcl_steps.specs.Views.{loop_lists_of}
use Rattle.tcl_each.proofs.moving.has_more.Given as goal

abbrev pub invariant-loop-list : goal.invariant-loop-list
invariant-loop-list l = has_more (loop_lists_of l.lists) ≡ has_more (loop_lists_of (drop l.list-index l.lists))
