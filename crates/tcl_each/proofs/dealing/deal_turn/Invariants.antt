use Rattle.std.proofs.Common.{◌≡◌, ◌++◌, drop}
use Rattle.tcl_code.specs.Dealing.{dealt_once}
use Rattle.tcl_steps.specs.Views.{loop_lists_of}
use Rattle.tcl_each.proofs.dealing.deal_turn.Given as goal

abbrev pub invariant-loop-list : goal.invariant-loop-list
invariant-loop-list l = l.dealt.items ++ dealt_once (loop_lists_of (drop l.list-index l.lists)) ≡ l.fn.dealt.items ++ dealt_once (loop_lists_of l.lists)
