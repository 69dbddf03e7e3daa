use Rattle.std.proofs.Common.{◌≡◌, ◌++◌, ◌+◌, ◌-◌, length, drop}
use Rattle.tcl_code.specs.Dealing.{firsts}
use Rattle.tcl_each.proofs.dealing.deal_list.Given as goal

abbrev pub invariant-loop-place : goal.invariant-loop-place
invariant-loop-place l = l.dealt.items ++ firsts (length l.list.names.items - l.place) (drop (l.list.gone + l.place) l.list.elements) ≡ l.fn.dealt.items ++ firsts (length l.fn.list.names.items) (drop l.fn.list.gone l.fn.list.elements)
