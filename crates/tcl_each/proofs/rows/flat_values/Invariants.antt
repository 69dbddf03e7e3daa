use Rattle.std.proofs.Common.{◌≡◌, ◌++◌, drop}
use Rattle.tcl_pages.specs.DictPages.{flat}
use Rattle.tcl_each.proofs.rows.flat_values.Given as goal

abbrev pub invariant-loop-place : goal.invariant-loop-place
invariant-loop-place l = l.flat.items ++ flat (drop l.place l.fn.pairs) ≡ flat l.fn.pairs
