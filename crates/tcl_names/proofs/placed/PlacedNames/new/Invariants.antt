use Rattle.std.proofs.Common.{◌≡◌, ℕ, None, get_or, take}
use Rattle.tcl_names.specs.Places.{names_in, values_in}
use Rattle.tcl_names.proofs.placed.PlacedNames.new.Given as goal

abbrev pub invariant-loop-name : goal.invariant-loop-name
invariant-loop-name g l = (names_in l.places.items ≡ take l.name-index l.name-items) × ((k : ℕ) → get_or (values_in l.places.items) k None ≡ None)
