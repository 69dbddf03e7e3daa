-- What a map's numbered places hold.
use Rattle.std.specs.Prelude.{ℕ, List, Option, map as each}
use Rattle.tcl_names.specs.declared.placed.Place.{Place}

module _ {H : Type 0} where
  -- the names of the places
  abbrev pub names_in : List (Place H) → List (List ℕ)
  names_in places = each (λ (p : Place H). p.name) places

  -- what is in the places
  abbrev pub values_in : List (Place H) → List (Option H)
  values_in places = each (λ (p : Place H). p.value) places
