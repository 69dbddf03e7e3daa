use Rattle.std.proofs.Common.{[], ◌∷◌, length}
use Rattle.tcl_pages.specs.Dictionaries.{pairs}
use Rattle.tcl_strings.specs.Grouped.{GroupedUpTo}
use Rattle.tcl_values.specs.Kept.{texts}
use Rattle.tcl_strings.proofs.keys.group_of_few.Given as goal

abbrev pub invariant-loop-left : goal.invariant-loop-left
invariant-loop-left l = GroupedUpTo (pairs (texts l.items)) (pairs (texts l.left)) (l.group ∷ [])

abbrev pub decreases-loop-left : goal.decreases-loop-left
decreases-loop-left l = length l.left
