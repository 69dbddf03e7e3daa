-- What contracts see of an element of a list that is kept.
use Rattle.std.specs.Prelude.{ℕ, suc, List, [], ◌∷◌, ◌++◌, map, max, take, drop}

-- its text, and how deep the list is that stands beside it: 0 where there is none
pub record Kept : Type 0 where
  pub text : List ℕ
  pub depth : ℕ

abbrev pub texts : List Kept → List (List ℕ)
texts ks = map (λ (k : Kept). k.text) ks

-- how deep a list of these elements is: one more than the deepest
abbrev pub depth_over : List Kept → ℕ
depth_over [] = 1
depth_over (k ∷ ks) = max (suc k.depth) (depth_over ks)

-- the n elements behind the first i, put at the end
abbrev pub rotated : ℕ → ℕ → List Kept → List Kept
rotated i n ks = take i ks ++ (drop n (drop i ks) ++ take n (drop i ks))
