-- Names of which no two are alike.
use Rattle.std.proofs.Common.{ℕ, suc, ◌+◌, ◌<◌, ◌≤◌, List, [], ◌∷◌, ◌++◌, ◌≡◌, Bool, true, false, cond, refl, sym, ap, ◌∙◌, Option, None, Some, length, get_or, arith}
use Rattle.std.proofs.lemmas.List.{get_or_append_left}
use Rattle.std.proofs.Common.{◌⊎◌, inl, inr, length-append}
use Rattle.std.proofs.Math.Nat.{eq-or-lt_of_le}
use Rattle.std.proofs.Math.Seq.{get_or-append_seam}
use Rattle.std.specs.FinMap as map
use Rattle.std.specs.Option.{option_map}
use Rattle.std.specs.Cmp.Lexicographic.{bytes_decides}
use Rattle.tcl_chars.proofs.Same.{text_is}
use Rattle.tcl_chars.specs.Texts.{same_text}
use Rattle.tcl_names.specs.Named.{Named}
use Rattle.tcl_names.specs.Placed.{IsApart, number_of, with_place, placed}
use Rattle.tcl_names.proofs.Places.{placed_aside}

-- a name that is there stays in its place when a name is put behind
kept : (ns : List (List ℕ)) (n q : List ℕ) (k : ℕ) → number_of ns q ≡ Some k → number_of (ns ++ n ∷ []) q ≡ Some k
kept [] n q k e = absurd cc
kept (x ∷ ns) n q k e = by (same_text q x) (number_of ns q) refl e (λ j at. kept ns n q j at)
  where
    by : (b : Bool) (i : Option ℕ) → number_of ns q ≡ i → cond b (Some 0) (option_map (λ j. j + 1) i) ≡ Some k → ((j : ℕ) → number_of ns q ≡ Some j → number_of (ns ++ n ∷ []) q ≡ Some j)
        → cond b (Some 0) (option_map (λ j. j + 1) (number_of (ns ++ n ∷ []) q)) ≡ Some k
    by true i at h below = h
    by false None at h below = absurd cc
    by false (Some j) at h below = ap (option_map (λ j. j + 1)) (below j at) ∙ h

pub alike : (q : List ℕ) → same_text q q ≡ true
alike q = (bytes_decides q q).1 refl

-- a new name has the place behind the others
last : (ns : List (List ℕ)) (q : List ℕ) → number_of ns q ≡ None → number_of (ns ++ q ∷ []) q ≡ Some (length ns)
last [] q e = ap (λ b. cond b (Some 0) None) (alike q)
last (x ∷ ns) q e = by (same_text q x) (number_of ns q) refl e (λ at. last ns q at)
  where
    by : (b : Bool) (i : Option ℕ) → number_of ns q ≡ i → cond b (Some 0) (option_map (λ j. j + 1) i) ≡ None → (number_of ns q ≡ None → number_of (ns ++ q ∷ []) q ≡ Some (length ns))
        → cond b (Some 0) (option_map (λ j. j + 1) (number_of (ns ++ q ∷ []) q)) ≡ Some (suc (length ns))
    by true i at h below = absurd cc
    by false None at h below =
        let more : length ns + 1 ≡ suc (length ns) = omega arith in
        ap (option_map (λ j. j + 1)) (below at) ∙ ap Some more
    by false (Some j) at h below = absurd cc

below_or_last : (ns : List (List ℕ)) (q : List ℕ) (k : ℕ) → k < length (ns ++ q ∷ []) → (k < length ns) ⊎ (k ≡ length ns)
below_or_last ns q k l =
    let low : k ≤ length ns = omega (arith, l, length-append ns (q ∷ [])) in
    elim (eq-or-lt_of_le low) [ inl e ↦ inr e | inr h ↦ inl h ]

pub apart_none : IsApart []
apart_none k l = absurd (omega arith)

pub apart_more : (ns : List (List ℕ)) (q : List ℕ) → IsApart ns → number_of ns q ≡ None → IsApart (ns ++ q ∷ [])
apart_more ns q apart none k l = elim (below_or_last ns q k l) [
  | inl low ↦ ap (number_of (ns ++ q ∷ [])) (get_or_append_left ns (q ∷ []) [] k low) ∙ kept ns q (get_or ns k []) k (apart k low)
  | inr end ↦ ap (λ i. number_of (ns ++ q ∷ []) (get_or (ns ++ q ∷ []) i [])) end ∙ ap (number_of (ns ++ q ∷ [])) (get_or-append_seam ns q [] []) ∙ last ns q none ∙ ap Some (sym end)
]

-- a name that stands in a place has that place
pub apart_at : (ns : List (List ℕ)) (q : List ℕ) (k : ℕ) → IsApart ns → k < length ns → same_text q (get_or ns k []) ≡ true → number_of ns q ≡ Some k
apart_at ns q k apart low e = ap (number_of ns) (text_is q (get_or ns k []) e) ∙ apart k low

module _ {H : Type 0} where
  behind : (ns : List (List ℕ)) (os : List (Option H)) (m : Named H) (q : List ℕ) (v : H) → length os ≡ length ns → placed (ns ++ q ∷ []) (os ++ Some v ∷ []) m ≡ placed ns os (map.insert m q v)
  behind [] [] m q v e = refl
  behind [] (o ∷ os) m q v e = absurd (omega (arith, e))
  behind (n ∷ ns) [] m q v e = absurd (omega (arith, e))
  behind (n ∷ ns) (o ∷ os) m q v e =
      let fewer : length os ≡ length ns = omega (arith, e) in
      ap (with_place n o) (behind ns os m q v fewer)

  -- a new name gets a place behind the others
  pub placed_more : (ns : List (List ℕ)) (os : List (Option H)) (m : Named H) (q : List ℕ) (v : H) → length os ≡ length ns → number_of ns q ≡ None → placed (ns ++ q ∷ []) (os ++ Some v ∷ []) m ≡ map.insert (placed ns os m) q v
  placed_more ns os m q v e at = behind ns os m q v e ∙ placed_aside ns os m q e (Some v) at
