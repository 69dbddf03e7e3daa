-- The last place is the greatest one.
use Rattle.std.proofs.Common.{◌≡◌, ◌≢◌, ℕ, suc, ◌+◌, ◌≤◌, ℤ, pos, negsuc, true, false, [], ◌∷◌, length, Option, Some, None, sym, ◌∙◌, subst, refl, arith, inl, inr}
use Rattle.std.specs.Prelude.{MatchOption, ◌≤ℤ◌, ◌+ℤ◌}
use Rattle.std.proofs.lemmas.Bool.{cases_Bool, cond-true, cond-false, false≢true, leb-true, le-leb}
use Rattle.std.proofs.lemmas.Int.{ints}
use Rattle.tcl_pages.specs.StringLaws.{EndsBy, LastIsGreatest}
use Rattle.tcl_chars.specs.Truth.{is_beginning}
use Rattle.tcl_pages.specs.Strings.{places_of, ends_by, last_until, StandsAt}
use Rattle.tcl_pages.specs.Texts.{Text}
use Rattle.tcl_pages.proofs.FirstPlace.{stands_first, stands_behind, never_empty, where_it_stands}

-- ---- the greatest of the places from k on, or the one that was found before

data Last (needle t : Text) (last : ℤ) (k : ℕ) (before : Option ℕ) : Option ℕ → Type 0 where
  none : ((i : ℕ) → StandsAt needle t i → ends_by (length needle) last (k + i) ≡ false) → Last needle t last k before before
  some : (i : ℕ) → StandsAt needle t i → ends_by (length needle) last (k + i) ≡ true → ((j : ℕ) → StandsAt needle t j → ends_by (length needle) last (k + j) ≡ true → j ≤ i) → Last needle t last k before (Some (k + i))

-- where it stands at the front, it ends too late
later : (needle t : Text) (last : ℤ) (k c : ℕ) (before found : Option ℕ) → (is_beginning needle (c ∷ t) ≡ true → ends_by (length needle) last k ≡ false) → Last needle t last (suc k) before found
    → Last needle (c ∷ t) last k before found
later needle t last k c before _ h (none f) = none (λ i s.
    elim (where_it_stands needle t c i s) [
      | inl p ↦ subst (λ n. ends_by (length needle) last n ≡ false) (omega (arith, p.0)) (h p.1)
      | inr p ↦ subst (λ n. ends_by (length needle) last n ≡ false) (omega (arith, p.1)) (f p.0 p.2)
    ])
later needle t last k c before _ h (some i s e g) =
    subst (λ n. Last needle (c ∷ t) last k before (Some n)) (omega arith)
    (some (suc i) (stands_behind needle t c i s) (subst (λ n. ends_by (length needle) last n ≡ true) (omega arith) e) (λ j r b.
    elim (where_it_stands needle t c j r) [
      | inl p ↦ omega (arith, p.0)
      | inr p ↦ omega (arith, p.1, g p.0 p.2 (subst (λ n. ends_by (length needle) last n ≡ true) (omega (arith, p.1)) b))
    ]))

-- it stands at the front, and ends in time
here : (needle t : Text) (last : ℤ) (k c : ℕ) (before found : Option ℕ) → is_beginning needle (c ∷ t) ≡ true → ends_by (length needle) last k ≡ true → Last needle t last (suc k) (Some k) found
    → Last needle (c ∷ t) last k before found
here needle t last k c before _ y e (none f) =
    subst (λ n. Last needle (c ∷ t) last k before (Some n)) (omega arith)
    (some 0 (stands_first needle (c ∷ t) y) (subst (λ n. ends_by (length needle) last n ≡ true) (omega arith) e) (λ j r b.
    elim (where_it_stands needle t c j r) [
      | inl p ↦ omega (arith, p.0)
      | inr p ↦ absurd (false≢true (sym (f p.0 p.2) ∙ subst (λ n. ends_by (length needle) last n ≡ true) (omega (arith, p.1)) b))
    ]))
here needle t last k c before _ y e (some i s b g) =
    subst (λ n. Last needle (c ∷ t) last k before (Some n)) (omega arith)
    (some (suc i) (stands_behind needle t c i s) (subst (λ n. ends_by (length needle) last n ≡ true) (omega arith) b) (λ j r h.
    elim (where_it_stands needle t c j r) [
      | inl p ↦ omega (arith, p.0)
      | inr p ↦ omega (arith, p.1, g p.0 p.2 (subst (λ n. ends_by (length needle) last n ≡ true) (omega (arith, p.1)) h))
    ]))

found_until : (needle t : Text) (last : ℤ) (k : ℕ) (before : Option ℕ) → length needle ≢ 0 → Last needle t last k before (last_until (length needle) last before (places_of needle k t))
found_until needle [] last k before n = none (λ i s. absurd (never_empty needle i n s))
found_until needle (c ∷ t) last k before n =
    elim (cases_Bool (is_beginning needle (c ∷ t))) [
      | inl y ↦
          subst (λ ks. Last needle (c ∷ t) last k before (last_until (length needle) last before ks)) (sym (cond-true _ _ _ y))
          (elim (cases_Bool (ends_by (length needle) last k)) [
            | inl b ↦
                subst (λ o. Last needle (c ∷ t) last k before (last_until (length needle) last o (places_of needle (suc k) t))) (sym (cond-true _ _ _ b))
                (here needle t last k c before _ y b (found_until needle t last (suc k) (Some k) n))
            | inr b ↦
                subst (λ o. Last needle (c ∷ t) last k before (last_until (length needle) last o (places_of needle (suc k) t))) (sym (cond-false _ _ _ b))
                (later needle t last k c before _ (λ _. b) (found_until needle t last (suc k) before n))
          ])
      | inr o ↦
          subst (λ ks. Last needle (c ∷ t) last k before (last_until (length needle) last before ks)) (sym (cond-false _ _ _ o))
          (later needle t last k c before _ (λ y. absurd (false≢true (sym o ∙ y))) (found_until needle t last (suc k) before n))
    ]

-- ---- in time

in_time : (size : ℕ) (last : ℤ) (k : ℕ) → ends_by size last k ≡ true → pos (k + size) ≤ℤ (last +ℤ pos 1)
in_time size (pos n) k h = omega (arith, ints, leb-true (k + size) (suc n) h)
in_time size (negsuc n) k h = absurd (false≢true h)

is_in_time : (size : ℕ) (last : ℤ) (k : ℕ) → size ≢ 0 → pos (k + size) ≤ℤ (last +ℤ pos 1) → ends_by size last k ≡ true
is_in_time size (pos n) k u l = le-leb (k + size) (suc n) (omega (arith, ints, l))
is_in_time size (negsuc n) k u l = absurd (omega (arith, ints, u, l))

abbrev Answer : Text → Text → ℤ → Option ℕ → Type 0
Answer needle t last found = MatchOption found ((j : ℕ) → StandsAt needle t j → EndsBy needle last j → ⊥)
    (λ k. StandsAt needle t k × EndsBy needle last k × ((j : ℕ) → StandsAt needle t j → EndsBy needle last j → j ≤ k))

from_nought : (needle t : Text) (last : ℤ) (found : Option ℕ) → length needle ≢ 0 → Last needle t last 0 None found → Answer needle t last found
from_nought needle t last _ n (none f) = λ j s l. false≢true (sym (f j s) ∙ subst (λ i. ends_by (length needle) last i ≡ true) (omega arith) (is_in_time (length needle) last j n l))
from_nought needle t last _ n (some i s e g) =
    subst (λ k. Answer needle t last (Some k)) (let same : i ≡ 0 + i = omega arith in same) (
      s,
      in_time (length needle) last i (subst (λ k. ends_by (length needle) last k ≡ true) (omega arith) e),
      λ j r l. g j r (subst (λ k. ends_by (length needle) last k ≡ true) (omega arith) (is_in_time (length needle) last j n l)),
    )

pub last_is_greatest : LastIsGreatest
last_is_greatest [] t last n = absurd (n refl)
last_is_greatest (c ∷ cs) t last n = from_nought (c ∷ cs) t last _ n (found_until (c ∷ cs) t last 0 None n)
