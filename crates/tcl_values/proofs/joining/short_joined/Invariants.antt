use Rattle.std.proofs.Common.{◌≡◌, ◌++◌}
use Rattle.std.specs.List.{concat}
use Rattle.std.specs.Prelude.{drop}
use Rattle.tcl_values.specs.Short.{short_text, IsShort}
use Rattle.tcl_values.proofs.joining.short_joined.Given as goal

abbrev pub invariant-loop-value : goal.invariant-loop-value
invariant-loop-value l = record {
  same : short_text l.whole ++ concat (drop l.value-index l.values) ≡ concat l.values;
  known : IsShort l.whole;
}
