use Rattle.std.proofs.Common.{◌≡◌, drop}
use Rattle.tcl_pages.specs.Searching.{first_found, wanted}
use Rattle.tcl_values.specs.Kept.{texts}
use Rattle.tcl_lists.proofs.search.first_hit.Given as goal

abbrev pub invariant-loop-place : goal.invariant-loop-place
invariant-loop-place l = first_found l.options.inline (wanted l.options l.pattern l.place (drop l.place (texts l.elements))) ≡ first_found l.options.inline (wanted l.options l.pattern 0 (texts l.elements))
