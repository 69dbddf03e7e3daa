-- A run in slices of a budget.
use Rattle.std.specs.Prelude.{◌≡◌, ℕ, ◌+◌, List}
use Rattle.tcl_chars.specs.declared.numbers.Dialect.{Dialect}
use Rattle.tcl_vm.specs.Parts.{PausesIn, total}
use Rattle.tcl_vm.specs.Turns.{Config}

-- From c a machine has gone on in parts, pausing after each, and stands at d; with the rest they are the budget.
pub record InSlices (dialect : Dialect) (c d : Config) (budget rest : ℕ) : Type 0 where
  pub parts : List ℕ
  pub pauses : PausesIn dialect parts c d
  pub adds : total parts + rest ≡ budget
