use Rattle.std.proofs.Common.{◌≡◌, ◌++◌, drop, map, Ok}
use Rattle.tcl_lists.specs.Sorted.{with_number}
use Rattle.tcl_pages.specs.Answers.{◌>>=◌}
use Rattle.tcl_pages.specs.Sorting.{numbered}
use Rattle.tcl_values.specs.Kept.{texts}
use Rattle.tcl_lists.proofs.sort.numbered.Given as goal

abbrev pub invariant-loop-element : goal.invariant-loop-element
invariant-loop-element l = (numbered l.dialect (drop l.element-index (texts l.elements)) >>= λ rest. Ok (map with_number l.items.items ++ rest)) ≡ numbered l.dialect (texts l.elements)
