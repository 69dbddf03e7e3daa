use Rattle.std.proofs.Common.{◌≡◌, ◌++◌}
use Rattle.std.specs.Prelude.{drop}
use Rattle.tcl_values.specs.Short.{short_text, IsShort}
use Rattle.tcl_values.proofs.short.Short.joined.Given as goal

abbrev pub invariant-loop-byte : goal.invariant-loop-byte
invariant-loop-byte l = record {
  same : short_text l.whole ++ drop l.byte-index l.more ≡ short_text l.self ++ l.more;
  known : IsShort l.whole;
}
