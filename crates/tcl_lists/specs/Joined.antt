-- Words joined one by one: concat(n).
use Rattle.std.specs.Prelude.{ℕ, Bool, true, false, List, [], ◌∷◌, ◌++◌}
use Rattle.tcl_chars.specs.Characters.{number_sign}
use Rattle.tcl_chars.specs.Place.{begins}

abbrev pub is_empty : List ℕ → Bool
is_empty [] = true
is_empty (c ∷ cs) = false

-- a text with a word behind it, and a space between; an empty word is left out
abbrev pub with_word : List ℕ → List ℕ → List ℕ
with_word t [] = t
with_word [] (c ∷ cs) = c ∷ cs
with_word (a ∷ t) (c ∷ cs) = a ∷ (t ++ 32 ∷ c ∷ cs)

-- Does the first text begin with a number sign? Written as the first element of a list, it is written otherwise than behind others.
abbrev pub begins_sign : List (List ℕ) → Bool
begins_sign [] = false
begins_sign (e ∷ es) = begins number_sign e
