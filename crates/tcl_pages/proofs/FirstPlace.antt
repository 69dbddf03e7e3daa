-- The first place is the least one.
use Rattle.std.proofs.Common.{◌≡◌, ◌≢◌, ℕ, suc, ◌+◌, ◌≤◌, ℤ, true, false, ◌&&◌, [], ◌∷◌, ◌++◌, length, Option, Some, None, sym, ap, ◌∙◌, subst, refl, arith, inl, inr}
use Rattle.std.specs.Prelude.{MatchOption, ◌⊎◌}
use Rattle.std.proofs.lemmas.Bool.{cases_Bool, and_parts, cond-true, cond-false, eq-eqb, eqb-true, false≢true}
use Rattle.tcl_chars.specs.Truth.{is_beginning}
use Rattle.tcl_pages.specs.Strings.{places_of, is_before, first_from, StandsAt, FirstIsLeast}
use Rattle.tcl_pages.specs.Texts.{Text}

-- ---- where a needle begins a text

pub record Behind (needle t : Text) : Type 0 where
  pub rest : Text
  pub joined : t ≡ needle ++ rest

pub begun : (needle t : Text) → is_beginning needle t ≡ true → Behind needle t
begun [] t h = record { rest = t; joined = refl }
begun (c ∷ cs) [] h = absurd (false≢true h)
begun (c ∷ cs) (d ∷ ds) h =
    let p = and_parts _ _ h in
    let more = begun cs ds p.1 in
    record { rest = more.rest; joined = ap (λ x. x ∷ ds) (sym (eqb-true c d p.0)) ∙ ap (λ t. c ∷ t) more.joined }

pub begins : (needle rest : Text) → is_beginning needle (needle ++ rest) ≡ true
begins [] rest = refl
begins (c ∷ cs) rest = ap (λ b. b && is_beginning cs (cs ++ rest)) (eq-eqb c c refl) ∙ begins cs rest

-- at the front, or behind the first character
pub stands_first : (needle t : Text) → is_beginning needle t ≡ true → StandsAt needle t 0
stands_first needle t h = let b = begun needle t h in record { front = []; rest = b.rest; joined = b.joined; place = refl }

pub stands_behind : (needle t : Text) (c j : ℕ) → StandsAt needle t j → StandsAt needle (c ∷ t) (suc j)
stands_behind needle t c j s = record { front = c ∷ s.front; rest = s.rest; joined = ap (λ u. c ∷ u) s.joined; place = ap (λ n. suc n) s.place }

pub never_empty : (needle : Text) (j : ℕ) → length needle ≢ 0 → StandsAt needle [] j → ⊥
never_empty needle j n s = n (ends needle s.front s.rest s.joined)
  where
    ends : (needle front rest : Text) → [] ≡ front ++ (needle ++ rest) → length needle ≡ 0
    ends [] front rest e = refl
    ends (c ∷ cs) [] rest e = absurd cc
    ends (c ∷ cs) (d ∷ front) rest e = absurd cc

pub where_it_stands : (needle t : Text) (c j : ℕ) → StandsAt needle (c ∷ t) j → ((j ≡ 0) × (is_beginning needle (c ∷ t) ≡ true)) ⊎ ((i : ℕ) × (j ≡ suc i) × StandsAt needle t i)
where_it_stands needle t c j s = by_front s.front s.rest s.joined s.place
  where
    by_front : (front rest : Text) → c ∷ t ≡ front ++ (needle ++ rest) → length front ≡ j → ((j ≡ 0) × (is_beginning needle (c ∷ t) ≡ true)) ⊎ ((i : ℕ) × (j ≡ suc i) × StandsAt needle t i)
    by_front [] rest e p = inl (sym p, ap (is_beginning needle) e ∙ begins needle rest)
    by_front (d ∷ front) rest e p = let k : t ≡ front ++ (needle ++ rest) = cc in inr (length front, sym p, record { front = front; rest = rest; joined = k; place = refl })

-- ---- the least of the places from k on

record Least (needle t : Text) (start : ℤ) (k found : ℕ) : Type 0 where
  behind : ℕ
  there : found ≡ k + behind
  stands : StandsAt needle t behind
  late : is_before found start ≡ false
  least : (i : ℕ) → StandsAt needle t i → is_before (k + i) start ≡ false → found ≤ k + i

abbrev Found : Text → Text → ℤ → ℕ → Option ℕ → Type 0
Found needle t start k found = MatchOption found ((i : ℕ) → StandsAt needle t i → is_before (k + i) start ≡ true) (Least needle t start k)

-- where it stands at the front, if it does, is before the start
passed : (needle t : Text) (start : ℤ) (k c : ℕ) (found : Option ℕ) → (is_beginning needle (c ∷ t) ≡ true → is_before k start ≡ true) → Found needle t start (suc k) found → Found needle (c ∷ t) start k found
passed needle t start k c None h f = λ i s.
    elim (where_it_stands needle t c i s) [
      | inl p ↦ subst (λ n. is_before n start ≡ true) (omega (arith, p.0)) (h p.1)
      | inr p ↦ subst (λ n. is_before n start ≡ true) (omega (arith, p.1)) (f p.0 p.2)
    ]
passed needle t start k c (Some n) h f = record {
  behind = suc f.behind;
  there = omega (arith, f.there);
  stands = stands_behind needle t c f.behind f.stands;
  late = f.late;
  least = λ i s b.
      elim (where_it_stands needle t c i s) [
        | inl p ↦ absurd (false≢true (sym b ∙ subst (λ n. is_before n start ≡ true) (omega (arith, p.0)) (h p.1)))
        | inr p ↦ omega (arith, p.1, f.least p.0 p.2 (subst (λ n. is_before n start ≡ false) (omega (arith, p.1)) b))
      ];
}

at_front : (needle t : Text) (start : ℤ) (k c : ℕ) → is_beginning needle (c ∷ t) ≡ true → is_before k start ≡ false → Found needle (c ∷ t) start k (Some k)
at_front needle t start k c h b = record { behind = 0; there = omega arith; stands = stands_first needle (c ∷ t) h; late = b; least = λ i s n. omega arith }

found_from : (needle t : Text) (start : ℤ) (k : ℕ) → length needle ≢ 0 → Found needle t start k (first_from start (places_of needle k t))
found_from needle [] start k n = λ i s. absurd (never_empty needle i n s)
found_from needle (c ∷ t) start k n =
    elim (cases_Bool (is_beginning needle (c ∷ t))) [
      | inl y ↦
          subst (λ ks. Found needle (c ∷ t) start k (first_from start ks)) (sym (cond-true _ _ _ y))
          (elim (cases_Bool (is_before k start)) [
            | inl b ↦ subst (Found needle (c ∷ t) start k) (sym (cond-true _ _ _ b)) (passed needle t start k c _ (λ _. b) (found_from needle t start (suc k) n))
            | inr b ↦ subst (Found needle (c ∷ t) start k) (sym (cond-false _ _ _ b)) (at_front needle t start k c y b)
          ])
      | inr o ↦ subst (λ ks. Found needle (c ∷ t) start k (first_from start ks)) (sym (cond-false _ _ _ o)) (passed needle t start k c _ (λ y. absurd (false≢true (sym o ∙ y))) (found_from needle t start (suc k) n))
    ]

abbrev Answer : Text → Text → ℤ → Option ℕ → Type 0
Answer needle t start found = MatchOption found ((j : ℕ) → StandsAt needle t j → is_before j start ≡ true)
    (λ k. StandsAt needle t k × (is_before k start ≡ false) × ((j : ℕ) → StandsAt needle t j → is_before j start ≡ false → k ≤ j))

from_nought : (needle t : Text) (start : ℤ) (found : Option ℕ) → Found needle t start 0 found → Answer needle t start found
from_nought needle t start None f = λ j s. subst (λ n. is_before n start ≡ true) (omega arith) (f j s)
from_nought needle t start (Some k) f =
    let here : f.behind ≡ k = omega (arith, f.there) in
    (subst (StandsAt needle t) here f.stands, f.late, λ j s b. omega (arith, f.least j s (subst (λ n. is_before n start ≡ false) (omega arith) b)))

pub first_is_least : FirstIsLeast
first_is_least [] t start n = absurd (n refl)
first_is_least (c ∷ cs) t start n = from_nought (c ∷ cs) t start _ (found_from (c ∷ cs) t start 0 n)
