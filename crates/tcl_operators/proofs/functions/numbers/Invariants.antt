use Rattle.std.proofs.Common.{◌≡◌}
use Rattle.std.specs.Prelude.{drop}
use Rattle.tcl_meaning.specs.Operators.{numbers}
use Rattle.tcl_operators.proofs.NumbersLemmas.{led}
use Rattle.tcl_operators.proofs.functions.numbers.Given as goal

abbrev pub invariant-loop-place : goal.invariant-loop-place
invariant-loop-place l = (l.values ≡ l.fn.values) × (numbers l.fn.dialect l.fn.values ≡ led l.found.items (numbers l.fn.dialect (drop l.place l.fn.values)))
