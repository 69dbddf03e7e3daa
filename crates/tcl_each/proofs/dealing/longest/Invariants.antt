use Rattle.std.proofs.Common.{◌≡◌, drop}
use Rattle.std.specs.Prelude.{max}
use Rattle.tcl_code.specs.Dealing.{longest}
use Rattle.tcl_steps.specs.Views.{loop_lists_of}
use Rattle.tcl_each.proofs.dealing.longest.Given as goal

abbrev pub invariant-loop-list : goal.invariant-loop-list
invariant-loop-list l = max l.most (longest (loop_lists_of (drop l.list-index l.lists))) ≡ longest (loop_lists_of l.fn.lists)
