use Rattle.std.proofs.Common.{◌≡◌, ◌++◌, map, drop}
use Rattle.tcl_lists.specs.Sorted.{its_text, is_before, kept_of}
use Rattle.tcl_lists.proofs.sort.values_of.Given as goal

abbrev pub invariant-loop-place : goal.invariant-loop-place
invariant-loop-place g l = l.values.items ++ map its_text (kept_of l.options (is_before g.K.Key.is_less l.options) (drop l.place l.items)) ≡ map its_text (kept_of l.options (is_before g.K.Key.is_less l.options) l.items)
