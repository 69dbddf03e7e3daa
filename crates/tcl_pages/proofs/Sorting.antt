-- A list sorted is the one stable ordered rearrangement of it, or with -unique the last elements of those that tie.
use Rattle.std.proofs.Common.{◌≡◌, ℕ, zero, suc, ◌+◌, Bool, true, false, not, List, [], ◌∷◌, get_or, sym, ap, ◌∙◌, subst, refl, arith, inl, inr}
use Rattle.std.specs.Prelude.{cond}
use Rattle.std.specs.Cmp.{IsStrictWeakOrder}
use Rattle.std.specs.List.{filter}
use Rattle.std.specs.List.Sorted.{IsPermutation, IsSortedBy, IsStableBy, ties}
use Rattle.std.proofs.lemmas.Bool.{cases_Bool, cond_both, and_parts, false≢true}
use Rattle.std.proofs.lemmas.List.Sorted.{IsPermutation-refl, IsPermutation-trans, IsPermutation-cons, IsPermutation-sym, IsPermutation-middle}
use Rattle.tcl_pages.specs.SortLaws.{last_one, UniqueIsLast}
use Rattle.tcl_pages.specs.Sorting.{inserted, sorted, last_of_ties, SortedIsStable}

module _ {A : Type 0} (before : A → A → Bool) (order : IsStrictWeakOrder before) where
  not_itself : (x : A) → before x x ≡ false
  not_itself x = elim (cases_Bool (before x x)) [ inl t ↦ order.one_way x x t | inr f ↦ f ]

  -- neither is before the other
  record Tie (x y : A) : Type 0 where
    here : before x y ≡ false
    there : before y x ≡ false

  no : (b : Bool) → not b ≡ true → b ≡ false
  no true h = absurd (false≢true h)
  no false h = refl

  tie : (x y : A) → ties before x y ≡ true → Tie x y
  tie x y h = let p = and_parts _ _ h in record { here = no (before x y) p.0; there = no (before y x) p.1 }

  tied : (x y : A) → before x y ≡ false → before y x ≡ false → ties before x y ≡ true
  tied x y h k = rw (h, k) refl

  -- one that is before another doesn't tie with what ties with the other
  apart : (x y z : A) → ties before x y ≡ true → before z y ≡ true → ties before x z ≡ false
  apart x y z h b =
      elim (cases_Bool (ties before x z)) [
        | inl t ↦ absurd (false≢true (sym (order.chain z x y (tie x z t).there (tie x y h).here) ∙ b))
        | inr f ↦ f
      ]

  -- ---- in order, an element at a time

  NoneBefore : A → List A → Type 0
  NoneBefore x [] = Unit {0}
  NoneBefore x (y ∷ ys) = (before y x ≡ false) × NoneBefore x ys

  Ascends : List A → Type 0
  Ascends [] = Unit {0}
  Ascends (x ∷ xs) = NoneBefore x xs × Ascends xs

  none_further : (x y : A) (ys : List A) → before y x ≡ false → NoneBefore y ys → NoneBefore x ys
  unfolding NoneBefore
  none_further x y [] h n = tt
  none_further x y (z ∷ ys) h n = (order.chain z y x n.0 h, none_further x y ys h n.1)

  one_later : (k : ℕ) → suc k + 1 ≡ suc (k + 1)
  one_later k = omega arith

  tail_sorted : (x : A) (xs : List A) → IsSortedBy before (x ∷ xs) → IsSortedBy before xs
  tail_sorted x xs h k d l u = subst (λ (i : ℕ). before (get_or (x ∷ xs) i d) (get_or xs k d) ≡ false) (one_later k) (h (suc k) d (omega arith) (omega arith))

  head_first : (x : A) (xs : List A) → IsSortedBy before (x ∷ xs) → Ascends xs → NoneBefore x xs
  unfolding NoneBefore Ascends
  head_first x [] h a = tt
  head_first x (y ∷ ys) h a = (h 0 x (omega arith) (omega arith), none_further x y ys (h 0 x (omega arith) (omega arith)) a.0)

  ascends : (xs : List A) → IsSortedBy before xs → Ascends xs
  unfolding Ascends
  ascends [] h = tt
  ascends (x ∷ xs) h = let a = ascends xs (tail_sorted x xs h) in (head_first x xs h a, a)

  sorted_cons : (x : A) (xs : List A) → NoneBefore x xs → IsSortedBy before xs → IsSortedBy before (x ∷ xs)
  unfolding NoneBefore
  sorted_cons x [] n h k d l u = absurd (omega arith)
  sorted_cons x (y ∷ ys) n h zero d l u = n.0
  sorted_cons x (y ∷ ys) n h (suc k) d l u = subst (λ (i : ℕ). before (get_or (x ∷ y ∷ ys) i d) (get_or (y ∷ ys) k d) ≡ false) (sym (one_later k)) (h k d (omega arith) (omega arith))

  is_sorted : (xs : List A) → Ascends xs → IsSortedBy before xs
  unfolding Ascends
  is_sorted [] a = λ k d l u. absurd (omega arith)
  is_sorted (x ∷ xs) a = sorted_cons x xs a.0 (is_sorted xs a.1)

  -- ---- what inserting keeps

  none_inserted : (x y : A) (ys : List A) → before y x ≡ false → NoneBefore x ys → NoneBefore x (inserted before y ys)
  unfolding NoneBefore
  none_inserted x y [] h n = (h, tt)
  none_inserted x y (z ∷ zs) h n =
      cond_both (before z y) _ _ (NoneBefore x) (λ _. (n.0, none_inserted x y zs h n.1)) (λ _. (h, n))

  ascends_inserted : (y : A) (ys : List A) → Ascends ys → Ascends (inserted before y ys)
  unfolding NoneBefore Ascends
  ascends_inserted y [] a = (tt, tt)
  ascends_inserted y (z ∷ zs) a =
      cond_both (before z y) _ _ Ascends (λ b. (none_inserted z y zs (order.one_way z y b) a.0, ascends_inserted y zs a.1))
      (λ b. ((b, none_further y z zs b a.0), a))

  skipped : (a b : Bool) (y z : A) (us : List A) → (a ≡ true → b ≡ false) → cond b (z ∷ cond a (y ∷ us) us) (cond a (y ∷ us) us) ≡ cond a (y ∷ cond b (z ∷ us) us) (cond b (z ∷ us) us)
  skipped true true y z us k = absurd (false≢true (sym (k refl)))
  skipped true false y z us k = refl
  skipped false b y z us k = refl

  filter_inserted : (p : A → Bool) (y : A) (ys : List A) → ((z : A) → p y ≡ true → before z y ≡ true → p z ≡ false)
      → filter p (inserted before y ys) ≡ filter p (y ∷ ys)
  filter_inserted p y [] h = refl
  filter_inserted p y (z ∷ zs) h =
      let later = filter_inserted p y zs h in
      cond_both (before z y) _ _ (λ us. filter p us ≡ filter p (y ∷ z ∷ zs))
      (λ b. ap (λ us. cond (p z) (z ∷ us) us) later ∙ skipped (p y) (p z) y z (filter p zs) (λ t. h z t b)) (λ _. refl)

  moved_inserted : (y : A) (ys : List A) → IsPermutation (y ∷ ys) (inserted before y ys)
  moved_inserted y [] = IsPermutation-refl _
  moved_inserted y (z ∷ zs) =
      cond_both (before z y) _ _ (IsPermutation (y ∷ z ∷ zs))
      (λ _. IsPermutation-trans _ _ _ (IsPermutation-sym _ _ (IsPermutation-middle (z ∷ []) y zs)) (IsPermutation-cons z _ _ (moved_inserted y zs)))
      (λ _. IsPermutation-refl _)

  -- ---- what sorting keeps

  ascends_sorted : (xs : List A) → Ascends (sorted before xs)
  unfolding Ascends
  ascends_sorted [] = tt
  ascends_sorted (x ∷ xs) = ascends_inserted x (sorted before xs) (ascends_sorted xs)

  pub stable_sorted : (xs : List A) → IsStableBy before xs (sorted before xs)
  stable_sorted [] x = refl
  stable_sorted (y ∷ xs) x =
      filter_inserted (ties before x) y (sorted before xs) (λ z. apart x y z) ∙ ap (λ us. cond (ties before x y) (y ∷ us) us) (stable_sorted xs x)

  moved_sorted : (xs : List A) → IsPermutation xs (sorted before xs)
  moved_sorted [] = IsPermutation-refl _
  moved_sorted (x ∷ xs) = IsPermutation-trans _ _ _ (IsPermutation-cons x _ _ (moved_sorted xs)) (moved_inserted x (sorted before xs))

  -- ---- two lists in order with the same ties are one

  AreTied : List A → List A → Type 0
  AreTied ys zs = (x : A) → filter (ties before x) ys ≡ filter (ties before x) zs

  -- what stands in what ascends from y isn't before y
  not_before : (p : A → Bool) (y w : A) (ys ws : List A) → NoneBefore y ys → filter p ys ≡ w ∷ ws → before w y ≡ false
  unfolding NoneBefore
  not_before p y w [] ws n e = absurd cc
  not_before p y w (z ∷ zs) ws n e =
      elim (cases_Bool (p z)) [
        | inl t ↦ let heads : z ∷ filter p zs ≡ w ∷ ws = sym (ap (λ b. cond b (z ∷ filter p zs) (filter p zs)) t) ∙ e in ap (λ v. before v y) (sym (first_of z w _ ws heads)) ∙ n.0
        | inr f ↦ not_before p y w zs ws n.1 (sym (ap (λ b. cond b (z ∷ filter p zs) (filter p zs)) f) ∙ e)
      ]
    where
      first_of : (a b : A) (us vs : List A) → a ∷ us ≡ b ∷ vs → a ≡ b
      first_of a b us vs e = cc

  self_first : (y : A) (ys : List A) → filter (ties before y) (y ∷ ys) ≡ y ∷ filter (ties before y) ys
  self_first y ys = ap (λ b. cond b (y ∷ filter (ties before y) ys) (filter (ties before y) ys)) (tied y y (not_itself y) (not_itself y))

  never_after : (y z : A) (ys zs : List A) → NoneBefore y ys → AreTied (y ∷ ys) (z ∷ zs) → before z y ≡ false
  unfolding NoneBefore AreTied
  never_after y z ys zs n t = not_before (ties before z) y z (y ∷ ys) (filter (ties before z) zs) (not_itself y, n) (t z ∙ self_first z zs)

  same_head : (y z : A) (ys zs : List A) → y ∷ ys ≡ z ∷ zs → y ≡ z
  same_head y z ys zs e = cc

  same_tail : (y z : A) (ys zs : List A) → y ∷ ys ≡ z ∷ zs → ys ≡ zs
  same_tail y z ys zs e = cc

  one_head : (y z : A) (ys zs : List A) → Ascends (y ∷ ys) → Ascends (z ∷ zs) → AreTied (y ∷ ys) (z ∷ zs) → y ≡ z
  unfolding Ascends AreTied
  one_head y z ys zs a b t =
      let h = tied y z (never_after z y zs ys b.0 (λ x. sym (t x))) (never_after y z ys zs a.0 t) in
      let e : filter (ties before y) (z ∷ zs) ≡ z ∷ filter (ties before y) zs = ap (λ c. cond c (z ∷ filter (ties before y) zs) (filter (ties before y) zs)) h in
      same_head y z _ _ (sym (self_first y ys) ∙ t y ∙ e)

  tails_tied : (c : Bool) (y : A) (us vs : List A) → cond c (y ∷ us) us ≡ cond c (y ∷ vs) vs → us ≡ vs
  tails_tied true y us vs e = same_tail y y us vs e
  tails_tied false y us vs e = e

  one_order : (ys zs : List A) → Ascends ys → Ascends zs → AreTied ys zs → ys ≡ zs
  unfolding Ascends AreTied
  one_order [] [] a b t = refl
  one_order [] (z ∷ zs) a b t = let e : [] ≡ z ∷ filter (ties before z) zs = t z ∙ self_first z zs in absurd cc
  one_order (y ∷ ys) [] a b t = let e : y ∷ filter (ties before y) ys ≡ [] = sym (self_first y ys) ∙ t y in absurd cc
  one_order (y ∷ ys) (z ∷ zs) a b t =
      let h = one_head y z ys zs a b t in
      let rest : ys ≡ zs = one_order ys zs a.1 b.1 (λ x. tails_tied (ties before x y) y _ _ (t x ∙ ap (λ w. filter (ties before x) (w ∷ zs)) (sym h))) in
      ap (λ w. w ∷ ys) h ∙ ap (λ us. z ∷ us) rest

  pub one_stable : (xs ys : List A) → IsSortedBy before ys → IsStableBy before xs ys → sorted before xs ≡ ys
  unfolding AreTied
  one_stable xs ys h s = one_order (sorted before xs) ys (ascends_sorted xs) (ascends ys h) (λ x. stable_sorted xs x ∙ sym (s x))

  pub in_order_sorted : (xs : List A) → IsSortedBy before (sorted before xs)
  in_order_sorted xs = is_sorted (sorted before xs) (ascends_sorted xs)

  pub are_elements : (xs : List A) → IsPermutation xs (sorted before xs)
  are_elements xs = moved_sorted xs

  -- ---- of those that tie the last one

  -- one that another stands before doesn't tie with what ties with the other
  apart_behind : (x y z : A) → ties before x y ≡ true → before y z ≡ true → ties before x z ≡ false
  apart_behind x y z h b =
      elim (cases_Bool (ties before x z)) [
        | inl t ↦ absurd (false≢true (sym (order.chain y x z (tie x y h).there (tie x z t).here) ∙ b))
        | inr f ↦ f
      ]

  none_in_ties : (x y : A) (ys : List A) → before y x ≡ false → NoneBefore x ys → NoneBefore x (last_of_ties before (y ∷ ys))
  unfolding NoneBefore
  none_in_ties x y [] h n = (h, tt)
  none_in_ties x y (z ∷ zs) h n =
      cond_both (ties before y z) _ _ (NoneBefore x) (λ _. none_in_ties x z zs n.0 n.1) (λ _. (h, none_in_ties x z zs n.0 n.1))

  ascends_ties : (ys : List A) → Ascends ys → Ascends (last_of_ties before ys)
  unfolding NoneBefore Ascends
  ascends_ties [] a = tt
  ascends_ties (y ∷ []) a = a
  ascends_ties (y ∷ z ∷ zs) a =
      cond_both (ties before y z) _ _ Ascends (λ _. ascends_ties (z ∷ zs) a.1) (λ _. (none_in_ties y z zs a.0.0 a.0.1, ascends_ties (z ∷ zs) a.1))

  behind_both : (y z w : A) → before y z ≡ true → before w z ≡ false → before y w ≡ true
  behind_both y z w b n =
      elim (cases_Bool (before y w)) [
        | inl t ↦ t
        | inr f ↦ absurd (false≢true (sym (order.chain y w z f n) ∙ b))
      ]

  none_behind : (x y z : A) (zs : List A) → ties before x y ≡ true → before y z ≡ true → NoneBefore z zs → filter (ties before x) zs ≡ []
  unfolding NoneBefore
  none_behind x y z [] h b n = refl
  none_behind x y z (w ∷ ws) h b n =
      ap (λ c. cond c (w ∷ filter (ties before x) ws) (filter (ties before x) ws)) (apart_behind x y w h (behind_both y z w b n.0)) ∙ none_behind x y z ws h b n.1

  ties_on : (x y z : A) → ties before x y ≡ true → ties before y z ≡ true → ties before x z ≡ true
  ties_on x y z h k = tied x z (order.chain x y z (tie x y h).here (tie y z k).here) (order.chain z y x (tie y z k).there (tie x y h).there)

  stands_first : (y z : A) → ties before y z ≡ false → before z y ≡ false → before y z ≡ true
  stands_first y z n h =
      elim (cases_Bool (before y z)) [
        | inl t ↦ t
        | inr f ↦ absurd (false≢true (sym n ∙ tied y z f h))
      ]

  last_alone : (c : Bool) (y : A) → cond c (y ∷ []) [] ≡ last_one (cond c (y ∷ []) [])
  last_alone true y = refl
  last_alone false y = refl

  kept : A → A → List A → Bool → List A
  kept x y us c = cond c (y ∷ filter (ties before x) us) (filter (ties before x) us)

  -- the first of two that tie is not the last one
  last_of_two : (x y z : A) (zs : List A) → ties before y z ≡ true → last_one (filter (ties before x) (y ∷ z ∷ zs)) ≡ last_one (filter (ties before x) (z ∷ zs))
  unfolding kept
  last_of_two x y z zs t =
      elim (cases_Bool (ties before x y)) [
        | inl h ↦
            let e : filter (ties before x) (z ∷ zs) ≡ z ∷ filter (ties before x) zs = ap (kept x z zs) (ties_on x y z h t) in
            ap (λ c. last_one (kept x y (z ∷ zs) c)) h ∙ ap (λ us. last_one (y ∷ us)) e ∙ sym (ap last_one e)
        | inr f ↦ ap (λ c. last_one (kept x y (z ∷ zs) c)) f
      ]

  -- y stands before all behind it
  alone_there : (x y z : A) (zs us : List A) → Ascends (z ∷ zs) → before y z ≡ true → filter (ties before x) us ≡ last_one (filter (ties before x) (z ∷ zs))
      → filter (ties before x) (y ∷ us) ≡ last_one (filter (ties before x) (y ∷ z ∷ zs))
  unfolding NoneBefore Ascends kept
  alone_there x y z zs us a b e =
      elim (cases_Bool (ties before x y)) [
        | inl h ↦
            let none : filter (ties before x) (z ∷ zs) ≡ [] = none_behind x y z (z ∷ zs) h b (not_itself z, a.0) in
            ap (kept x y us) h ∙ ap (λ vs. y ∷ vs) (e ∙ ap last_one none) ∙ sym (ap (λ c. last_one (kept x y (z ∷ zs) c)) h ∙ ap (λ vs. last_one (y ∷ vs)) none)
        | inr f ↦ ap (kept x y us) f ∙ e ∙ sym (ap (λ c. last_one (kept x y (z ∷ zs) c)) f)
      ]

  filter_ties : (x : A) (ys : List A) → Ascends ys → filter (ties before x) (last_of_ties before ys) ≡ last_one (filter (ties before x) ys)
  unfolding NoneBefore Ascends
  filter_ties x [] a = refl
  filter_ties x (y ∷ []) a = last_alone (ties before x y) y
  filter_ties x (y ∷ z ∷ zs) a =
      cond_both (ties before y z) _ _ (λ us. filter (ties before x) us ≡ last_one (filter (ties before x) (y ∷ z ∷ zs)))
      (λ t. filter_ties x (z ∷ zs) a.1 ∙ sym (last_of_two x y z zs t))
      (λ n. alone_there x y z zs _ a.1 (stands_first y z n a.0.0) (filter_ties x (z ∷ zs) a.1))

  last_ones : (xs : List A) (x : A) → filter (ties before x) (last_of_ties before (sorted before xs)) ≡ last_one (filter (ties before x) xs)
  last_ones xs x = filter_ties x (sorted before xs) (ascends_sorted xs) ∙ ap last_one (stable_sorted xs x)

  pub in_order_ties : (xs : List A) → IsSortedBy before (last_of_ties before (sorted before xs)) × ((x : A) → filter (ties before x) (last_of_ties before (sorted before xs)) ≡ last_one (filter (ties before x) xs))
  in_order_ties xs = (is_sorted _ (ascends_ties (sorted before xs) (ascends_sorted xs)), last_ones xs)

  pub one_unique : (xs ys : List A) → IsSortedBy before ys → ((x : A) → filter (ties before x) ys ≡ last_one (filter (ties before x) xs)) → last_of_ties before (sorted before xs) ≡ ys
  unfolding AreTied
  one_unique xs ys h s = one_order (last_of_ties before (sorted before xs)) ys (ascends_ties (sorted before xs) (ascends_sorted xs)) (ascends ys h) (λ x. last_ones xs x ∙ sym (s x))

pub sorted_is_stable : (A : Type 0) → SortedIsStable A
sorted_is_stable A before order xs ys = (
  λ e. subst (λ zs. IsPermutation xs zs × IsSortedBy before zs × IsStableBy before xs zs) e
      (are_elements before order xs, in_order_sorted before order xs, stable_sorted before order xs),
  λ h. one_stable before order xs ys h.1 h.2,
)

pub unique_is_last : (A : Type 0) → UniqueIsLast A
unique_is_last A before order xs ys = (
  λ e. subst (λ zs. IsSortedBy before zs × ((x : A) → filter (ties before x) zs ≡ last_one (filter (ties before x) xs))) e (in_order_ties before order xs),
  λ h. one_unique before order xs ys h.0 h.1,
)
