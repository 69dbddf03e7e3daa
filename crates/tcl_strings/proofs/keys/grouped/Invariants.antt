use Rattle.std.proofs.Common.{length}
use Rattle.tcl_pages.specs.Dictionaries.{pairs}
use Rattle.tcl_strings.specs.Grouped.{GroupedUpTo}
use Rattle.tcl_strings.proofs.keys.grouped.Given as goal

abbrev pub invariant-loop-left : goal.invariant-loop-left
invariant-loop-left l = GroupedUpTo (pairs l.items) (pairs l.left) l.groups.items

abbrev pub decreases-loop-left : goal.decreases-loop-left
decreases-loop-left l = length l.left
