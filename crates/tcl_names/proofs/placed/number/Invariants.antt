use Rattle.std.proofs.Common.{◌≡◌, drop}
use Rattle.std.specs.Str.{chars}
use Rattle.tcl_names.specs.Placed.{number_of}
use Rattle.tcl_names.specs.Places.{names_in}
use Rattle.tcl_names.proofs.Numbers.{past}
use Rattle.tcl_names.proofs.placed.number.Given as goal

abbrev pub invariant-loop-place : goal.invariant-loop-place
invariant-loop-place g l =
    (l.number ≡ l.place-index) × (past (λ p. p.name) l.place-index (drop l.place-index l.places) (chars l.name) ≡ number_of (names_in l.places) (chars l.name))
