use Rattle.std.proofs.Common.{◌≡◌, ◌++◌, ◌-◌}
use Rattle.tcl_code.specs.Dealing.{dealt, dealt_in}
use Rattle.tcl_steps.specs.Views.{loop_lists_of}
use Rattle.tcl_each.proofs.dealing.deal.Given as goal

abbrev pub invariant-loop : goal.invariant-loop
invariant-loop l = l.dealt.items ++ dealt_in (l.end - l.counter) (loop_lists_of l.lists) ≡ dealt (loop_lists_of l.fn.lists)
