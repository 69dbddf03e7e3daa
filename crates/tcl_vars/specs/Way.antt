-- The way that indices lead through lists in lists: lset(n).
use Rattle.std.specs.Prelude.{ℕ, List, [], ◌∷◌, Ok, map, length, get_or}
use Rattle.tcl_chars.specs.declared.numbers.Dialect.{Dialect}
use Rattle.tcl_list.specs.Elements.{elements_of}
use Rattle.tcl_list.specs.Written.{written}
use Rattle.tcl_pages.specs.Answers.{Answer, ◌>>=◌}
use Rattle.tcl_pages.specs.Lists.{index, place_within, with_element}
use Rattle.tcl_vars.specs.declared.path.Level.{Level}

-- the place in a list that an index says
abbrev pub place_by : Dialect → List ℕ → List ℕ → Answer ℕ
place_by dialect list i = do
  es ← elements_of list
  place ← index dialect i (length es)
  place_within place (length es)

-- the element at a place, or the empty text
abbrev pub element_in : List ℕ → ℕ → Answer (List ℕ)
element_in list k = do
  es ← elements_of list
  Ok (get_or es k [])

-- the list with another element at a place
abbrev pub put : List ℕ → ℕ → List ℕ → Answer (List ℕ)
put list k v = do
  es ← elements_of list
  Ok (written (with_element es k v))

-- a level's list and place
abbrev pub seen : Level → List ℕ × ℕ
seen l = (l.list, l.place)

abbrev pub all_seen : List Level → List (List ℕ × ℕ)
all_seen ls = map seen ls

-- the lists on the way, and the place in each, the outermost first
abbrev pub way_of : Dialect → List ℕ → List (List ℕ) → Answer (List (List ℕ × ℕ))
way_of dialect list [] = Ok []
way_of dialect list (i ∷ is) = do
  k ← place_by dialect list i
  inner ← element_in list k
  rest ← way_of dialect inner is
  Ok ((list, k) ∷ rest)

-- the outermost list, with a new element at the way's end
abbrev pub put_all : List (List ℕ × ℕ) → List ℕ → Answer (List ℕ)
put_all [] v = Ok v
put_all (l ∷ ls) v = do
  inner ← put_all ls v
  put l.0 l.1 inner

-- the places that indices say, each in the list that the element at the place before is read as
abbrev pub places_of : Dialect → List ℕ → List (List ℕ) → Answer (List ℕ)
places_of dialect list [] = Ok []
places_of dialect list (i ∷ is) = do
  k ← place_by dialect list i
  inner ← element_in list k
  rest ← places_of dialect inner is
  Ok (k ∷ rest)
