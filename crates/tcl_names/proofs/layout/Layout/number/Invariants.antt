use Rattle.std.proofs.Common.{◌≡◌, drop, map as each}
use Rattle.std.specs.Str.{chars}
use Rattle.tcl_names.specs.Placed.{number_of}
use Rattle.tcl_names.proofs.Numbers.{past}
use Rattle.tcl_names.proofs.layout.Layout.number.Given as goal

abbrev pub invariant-loop-known : goal.invariant-loop-known
invariant-loop-known l =
    (l.number ≡ l.known-index) × (past (λ n. n) l.known-index (drop l.known-index l.known-items) (chars l.name) ≡ number_of (each (λ n. n) l.known-items) (chars l.name))
