-- Pairs of keys and values in groups by the first characters of their keys.
use Rattle.std.specs.Prelude.{◌≡◌, ◌<◌, ◌%◌, ◌==◌, ℕ, Bool, false, List, [], ◌∷◌, ◌++◌, length, filter, get_or, set, Option, None}
use Rattle.tcl_pages.specs.Strings.{pair_for}
use Rattle.tcl_pages.specs.Texts.{Text}

abbrev pub Pair : Type 0
Pair = Text × Text

-- which of `count` groups the keys with this first character are in
abbrev pub group_of : ℕ → ℕ → ℕ
group_of count c = c % count

-- is a key in group k of `count`; an empty key is in none
abbrev pub falls_into : ℕ → ℕ → Text → Bool
falls_into count k [] = false
falls_into count k (c ∷ cs) = group_of count c == k

-- each group has, in their order, just the pairs whose keys fall into it
pub record Grouped (ps : List Pair) (groups : List (List Pair)) : Type 0 where
  pub some : 0 < length groups
  pub each : (k : ℕ) → k < length groups → get_or groups k [] ≡ filter (λ p. falls_into (length groups) k p.0) ps

-- the pairs that are grouped already, among all of them
pub record GroupedUpTo (all rest : List Pair) (groups : List (List Pair)) : Type 0 where
  pub front : List Pair
  pub grouped : Grouped front groups
  pub joined : front ++ rest ≡ all

-- other pairs with one more behind them; a pair with an empty key is for no text
abbrev pub behind_others : Text → Pair → List Pair → List Pair
behind_others [] p ps = ps
behind_others (c ∷ cs) p ps = ps ++ p ∷ []

-- the groups with a pair at the end of the group k
abbrev pub put : ℕ → Pair → List (List Pair) → List (List Pair)
put k p groups = set groups k (get_or groups k [] ++ p ∷ [])

abbrev pub put_by : Text → Pair → List (List Pair) → List (List Pair)
put_by [] p groups = groups
put_by (c ∷ cs) p groups = put (group_of (length groups) c) p groups

-- the groups with another pair at the end of the one that its key falls into
abbrev pub with_pair : Pair → List (List Pair) → List (List Pair)
with_pair p groups = put_by p.0 p groups

-- the first pair whose key begins the text, in the group of the text's first character
abbrev pub pair_among : List (List Pair) → Text → Option Pair
pair_among groups [] = None
pair_among groups (c ∷ cs) = pair_for (get_or groups (group_of (length groups) c) []) (c ∷ cs)
