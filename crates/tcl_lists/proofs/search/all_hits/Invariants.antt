use Rattle.std.proofs.Common.{◌≡◌, ◌++◌, map, drop}
use Rattle.tcl_pages.specs.Searching.{hit_text, wanted}
use Rattle.tcl_values.specs.Kept.{texts}
use Rattle.tcl_lists.proofs.search.all_hits.Given as goal

abbrev pub invariant-loop-place : goal.invariant-loop-place
invariant-loop-place l = l.hits.items ++ map (hit_text l.options.inline) (wanted l.options l.pattern l.place (drop l.place (texts l.elements))) ≡ map (hit_text l.options.inline) (wanted l.options l.pattern 0 (texts l.elements))
