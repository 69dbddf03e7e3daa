-- An element that is written in braces.
use Rattle.std.specs.Prelude.{ℕ, Bool, List, [], ◌∷◌, ◌++◌, if◌then◌else◌}
use Rattle.tcl_chars.specs.Characters.{space, open_brace}

-- what stands in front of any element but the first
abbrev pub in_front : Bool → List ℕ
in_front first = if first then [] else space ∷ []

-- what stands in front of what is written in braces
abbrev pub opening : Bool → List ℕ
opening first = in_front first ++ open_brace ∷ []
