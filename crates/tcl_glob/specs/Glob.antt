-- The parts of a pattern, as the code has them, and how far it has come.
use Rattle.std.specs.Prelude.{◌≡◌, ◌≢◌, ◌⊎◌, ◌≤◌, ℕ, Bool, true, false, List, [], ◌∷◌, length, Option, Some, None, ◌==◌, if◌then◌else◌}
use Rattle.std.specs.Str.{chars}
use Rattle.tcl_chars.specs.Characters.{star, backslash, open_bracket}
use Rattle.tcl_chars.specs.Place.{begins}
use Rattle.tcl_pages.specs.Glob.{One, any, just, one_of, dash, question, takes, first_part, some_rest, glob}
use Rattle.tcl_glob.specs.Seek.{to_separator}
use Rattle.tcl_glob.specs.declared.glob.Part.{Part}
use Rattle.tcl_glob.specs.declared.glob.Part.TheVariants as part

abbrev pub one_of_part : Part → One
one_of_part part.Any = any
one_of_part (part.Just c) = just c
one_of_part (part.OneOf set) = one_of (chars set.now)

-- Behind the first character of a range: its last one, and what follows the range.
abbrev pub range_end : List ℕ → Option (ℕ × List ℕ)
range_end [] = None
range_end (d ∷ []) = None
range_end (d ∷ y ∷ cs) = if d == dash then Some (y, cs) else None

-- does the character stand for itself where a part begins with it
abbrev pub is_plain : ℕ → Bool
is_plain p = if p == star then false else (if p == question then false else (if p == open_bracket then false else (if p == backslash then false else true)))

-- what a text has left at the next place where a pattern may fit it
abbrev pub to_fit : List ℕ → List ℕ → List ℕ
to_fit [] t = []
to_fit (p ∷ ps) t = if is_plain p then to_separator (λ c. c == p) t else t

-- the parts of ps up to qs take the characters of t up to u
pub data Taken : List ℕ → List ℕ → List ℕ → List ℕ → Type 0 where
  none : (qs u : List ℕ) → Taken qs u qs u
  one : (p c : ℕ) (ps t qs u : List ℕ) → p ≢ star → takes (first_part p ps).0 c ≡ true → Taken (first_part p ps).1 t qs u → Taken (p ∷ ps) (c ∷ t) qs u

-- nothing is left of the pattern and of the text, or the pattern goes on with `*`
abbrev pub AtEnd : List ℕ → List ℕ → Type 0
AtEnd qs u = ((qs ≡ []) × (u ≡ [])) ⊎ (begins star qs ≡ true)

pub record Fit (ps t qs u : List ℕ) : Type 0 where
  pub taken : Taken ps t qs u
  pub at_end : AtEnd qs u

-- a match of ps with t or with the rest of it behind some characters is one of qs with u
pub record FirstFit (ps t qs u : List ℕ) : Type 0 where
  pub same : some_rest (glob ps) t ≡ glob qs u
  pub at_end : AtEnd qs u
  pub shorter : length qs ≤ length ps
