-- A run in parts: a machine that goes on with units of its own each time. In a dialect of numbers.
use Rattle.std.specs.Prelude.{◌≡◌, ℕ, ◌+◌, List, [], ◌∷◌}
use Rattle.tcl_chars.specs.declared.numbers.Dialect.{Dialect}
use Rattle.tcl_meaning.specs.Agreement.{Agrees}
use Rattle.tcl_meaning.specs.Completions.{Completion}
use Rattle.tcl_meaning.specs.Effects.{Got}
use Rattle.tcl_meaning.specs.State.{with_units}
use Rattle.tcl_vm.specs.Turns.{Config, Stands, Pauses}

-- a machine with n units, in place of those that it had
abbrev pub given : ℕ → Config → Config
given n c = record c { state = with_units n c.state }

-- the units of all parts
abbrev pub total : List ℕ → ℕ
total [] = 0
total (n ∷ ns) = n + total ns

module _ (dialect : Dialect) where
  -- Part by part the machine goes on from c, with the units that the list has for the part, until one is wanting; at last it stands at d.
  abbrev pub PausesIn : List ℕ → Config → Config → Type 0
  PausesIn [] c d = d ≡ c
  PausesIn (n ∷ ns) c d = (m : Config) × Pauses dialect (given n c) m × PausesIn ns m d

  -- what was really done is what the machine comes to
  abbrev pub HasDone : Config → Got Completion → Type 0
  HasDone c real = (r : Got Completion) → Stands dialect c r → Agrees r real
