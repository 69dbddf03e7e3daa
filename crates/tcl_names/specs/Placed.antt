-- Names with numbered places, and maps of which some names have such places.
use Rattle.std.specs.Prelude.{ℕ, List, [], ◌∷◌, ◌++◌, Option, None, Some, option_map, is_some, if◌then◌else◌, ◌+◌, ◌<◌, ◌≡◌, length, slice_index_or}
use Rattle.std.specs.FinMap as map
use Rattle.tcl_chars.specs.Texts.{same_text}
use Rattle.tcl_names.specs.Named.{Named}

-- the first place of a name
abbrev pub number_of : List (List ℕ) → List ℕ → Option ℕ
number_of [] name = None
number_of (n ∷ ns) name = if same_text name n then Some 0 else option_map (λ k. k + 1) (number_of ns name)

-- each name has the place where it stands: no two are alike
abbrev pub IsApart : List (List ℕ) → Type 0
IsApart ns = (k : ℕ) → k < length ns → number_of ns (slice_index_or ns k []) ≡ Some k

-- the names with one behind them, unless it is there
abbrev pub with_name : Option ℕ → List (List ℕ) → List ℕ → List (List ℕ)
with_name None ns name = ns ++ name ∷ []
with_name (Some k) ns name = ns

abbrev pub placed_name : List (List ℕ) → List ℕ → List (List ℕ)
placed_name ns name = with_name (number_of ns name) ns name

module _ {H : Type 0} where
  -- a map where a name has what there is for it, and nothing else
  abbrev pub with_place : List ℕ → Option H → Named H → Named H
  with_place name None m = map.remove m name
  with_place name (Some v) m = map.insert m name v

  -- a map where each name has what is in its first place; the other names have what they have in m
  abbrev pub placed : List (List ℕ) → List (Option H) → Named H → Named H
  placed [] os m = m
  placed (n ∷ ns) [] m = m
  placed (n ∷ ns) (o ∷ os) m = with_place n o (placed ns os m)

-- a set with those of some names more that a map has
abbrev pub with_present : {H : Type 0} → Named H → List (List ℕ) → Named (Unit {0}) → Named (Unit {0})
with_present m [] set = set
with_present m (k ∷ ks) set = with_present m ks (if is_some (map.get m k) then map.insert set k tt else set)

-- a set with some names more
abbrev pub with_names : Named (Unit {0}) → List (List ℕ × Unit {0}) → Named (Unit {0})
with_names set [] = set
with_names set (e ∷ es) = with_names (map.insert set e.0 e.1) es
