use Rattle.std.proofs.Common.{drop}
use Rattle.tcl_meaning.specs.Control.{each_set}
use Rattle.tcl_meaning.specs.Tasks.{Each}
use Rattle.tcl_steps.specs.Views.{loop_lists_of}
use Rattle.tcl_steps.specs.Comes.{Becomes}
use Rattle.tcl_each.proofs.setting.set_lists.Given as goal

abbrev pub invariant-loop-list : goal.invariant-loop-list
invariant-loop-list l = (e : Each) → Becomes (each_set e (loop_lists_of l.fn.lists)) l.fn.frames (each_set e (loop_lists_of (drop l.list-index l.fn.lists))) l.frames
