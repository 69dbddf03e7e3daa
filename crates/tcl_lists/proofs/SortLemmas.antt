-- Elements in order, with what they are sorted by.
use Rattle.std.proofs.Common.{◌≡◌, ℕ, zero, suc, ◌+◌, ◌<◌, ◌≤◌, ℤ, Bool, true, false, not, ◌&&◌, List, [], ◌∷◌, ◌++◌, map, length, drop, get_or, Ok, Err, Bor, sym, ap, ◌∙◌, refl, arith, append_assoc}
use Rattle.std.specs.Prelude.{cond}
use Rattle.std.specs.Cmp.{IsStrictWeakOrder}
use Rattle.std.specs.Fn.{ComparesAs, Mut}
use Rattle.std.specs.List.Sorted.{IsSortedByClosure, IsStableByClosure, ties}
use Rattle.std.specs.declared.cmp.Ordering.{Ordering}
use Rattle.std.proofs.lemmas.List.Sorted.{IsStrictWeakOrder-flip}
use Rattle.tcl_chars.specs.Answers.{Stops}
use Rattle.tcl_chars.specs.declared.fault.Fault.{Fault}
use Rattle.tcl_chars.specs.declared.numbers.Dialect.{Dialect}
use Rattle.tcl_chars.specs.Messages.{number}
use Rattle.tcl_lists.specs.Sorted.{is_before, ties_with_next}
use Rattle.tcl_lists.specs.declared.sort.Item.{Item}
use Rattle.tcl_lists.proofs.IndexLemmas.{texts_at, stops_same, stops_first}
use Rattle.tcl_pages.proofs.Sorting.{one_stable}
use Rattle.tcl_pages.specs.Answers.{Answer, ◌>>=◌}
use Rattle.tcl_pages.specs.Sorting.{inserted, sorted, last_of_ties, in_order, directed, numbered}
use Rattle.tcl_pages.specs.Texts.{Text}
use Rattle.tcl_pages.specs.declared.lists.SortOptions.{SortOptions}
use Rattle.tcl_values.specs.Kept.{Kept, texts}

-- ---- the order

flipped_or_not : {A : Type 0} (way : Bool) (lt : A → A → Bool) → IsStrictWeakOrder lt → IsStrictWeakOrder (λ x y. directed way lt x y)
flipped_or_not true lt o = IsStrictWeakOrder-flip lt o
flipped_or_not false lt o = o

orders_items : {K : Type 0} (less : K → K → Bool) → IsStrictWeakOrder less → (o : SortOptions) → IsStrictWeakOrder (is_before less o)
orders_items {K} less w o =
    flipped_or_not o.decreasing (λ (x y : Item K). less x.key y.key)
    (record {
      one_way = λ x y h. w.one_way x.key y.key h;
      chain = λ x y z h k. w.chain x.key y.key z.key h k;
    })

-- what `sort_by` leaves, where its closure answers by the order
pub items_sorted : {K F : Type 0} (less : K → K → Bool) → IsStrictWeakOrder less → (o : SortOptions) (g : Mut F (Bor (Item K) × (Bor (Item K) × Unit {0})) Ordering) (f : F) (xs ys : List (Item K)) → ComparesAs g (is_before less o) f
    → IsSortedByClosure g f ys → IsStableByClosure g f xs ys → ys ≡ sorted (is_before less o) xs
items_sorted less w o g f xs ys h up stable =
    let before = is_before less o in
    let orders = orders_items less w o in
    sym (one_stable before orders xs ys (up before orders h) (stable before orders h))

-- ---- sorting what is seen of items

module _ {A B : Type 0} (f : A → B) (over : A → A → Bool) (before : B → B → Bool) (same : (x y : A) → over x y ≡ before (f x) (f y)) where
  seen_inserted : (x : A) (xs : List A) → map f (inserted over x xs) ≡ inserted before (f x) (map f xs)
  seen_inserted x [] = refl
  seen_inserted x (y ∷ ys) = by_test (over y x) (seen_inserted x ys) ∙ ap (λ b. cond b (f y ∷ inserted before (f x) (map f ys)) (f x ∷ f y ∷ map f ys)) (same y x)
    where
      by_test : (b : Bool) → map f (inserted over x ys) ≡ inserted before (f x) (map f ys) → map f (cond b (y ∷ inserted over x ys) (x ∷ y ∷ ys)) ≡ cond b (f y ∷ inserted before (f x) (map f ys)) (f x ∷ f y ∷ map f ys)
      by_test true e = ap (λ zs. f y ∷ zs) e
      by_test false e = refl

  seen_sorted : (xs : List A) → map f (sorted over xs) ≡ sorted before (map f xs)
  seen_sorted [] = refl
  seen_sorted (x ∷ xs) = seen_inserted x (sorted over xs) ∙ ap (inserted before (f x)) (seen_sorted xs)

  tie_same : (x y : A) → ties over x y ≡ ties before (f x) (f y)
  tie_same x y = ap (λ (a : Bool). not a && not (over y x)) (same x y) ∙ ap (λ (a : Bool). not (before (f x) (f y)) && not a) (same y x)

  seen_last : (xs : List A) → map f (last_of_ties over xs) ≡ last_of_ties before (map f xs)
  seen_last [] = refl
  seen_last (x ∷ []) = refl
  seen_last (x ∷ y ∷ ys) = by_test (ties over x y) (seen_last (y ∷ ys)) ∙ ap (λ b. cond b (last_of_ties before (map f (y ∷ ys))) (f x ∷ last_of_ties before (map f (y ∷ ys)))) (tie_same x y)
    where
      by_test : (b : Bool) → map f (last_of_ties over (y ∷ ys)) ≡ last_of_ties before (map f (y ∷ ys)) → map f (cond b (last_of_ties over (y ∷ ys)) (x ∷ last_of_ties over (y ∷ ys))) ≡ cond b (last_of_ties before (map f (y ∷ ys))) (f x ∷ last_of_ties before (map f (y ∷ ys)))
      by_test true e = e
      by_test false e = ap (λ zs. f x ∷ zs) e

  pub seen_in_order : (o : SortOptions) (xs : List A) → map f (in_order o over xs) ≡ in_order o before (map f xs)
  seen_in_order o xs = by_option o.unique
    where
      by_option : (b : Bool) → map f (cond b (last_of_ties over (sorted over xs)) (sorted over xs)) ≡ cond b (last_of_ties before (sorted before (map f xs))) (sorted before (map f xs))
      by_option true = seen_last (sorted over xs) ∙ ap (last_of_ties before) (seen_sorted xs)
      by_option false = seen_sorted xs

-- ---- each element with its number

module _ (d : Dialect) (ks : List Kept) where
  pub numbers_go_on : (i : ℕ) (k : Kept) (done : List (ℤ × Text)) (n : ℤ) (more : List (ℤ × Text)) → more ≡ done ++ (n, k.text) ∷ [] → i < length ks → k ≡ get_or ks i k → number d k.text ≡ Ok n
      → (numbered d (drop (i + 1) (texts ks)) >>= λ rest. Ok (more ++ rest)) ≡ (numbered d (drop i (texts ks)) >>= λ rest. Ok (done ++ rest))
  numbers_go_on i k done n more em h e is =
      ap (λ us. numbered d R >>= λ rest. Ok (us ++ rest)) em ∙ sym (ap (λ es. numbered d es >>= λ rest. Ok (done ++ rest)) (texts_at ks i k h e)
      ∙ ap (λ r. (r >>= λ m. numbered d R >>= λ rest. Ok ((m, k.text) ∷ rest)) >>= λ rest. Ok (done ++ rest)) is ∙ joined (numbered d R))
    where
      R : List Text
      R = drop (i + 1) (texts ks)

      joined : (r : Answer (List (ℤ × Text))) → ((r >>= λ rest. Ok ((n, k.text) ∷ rest)) >>= λ rest. Ok (done ++ rest)) ≡ (r >>= λ rest. Ok ((done ++ (n, k.text) ∷ []) ++ rest))
      joined (Ok rest) = ap Ok (sym (append_assoc done ((n, k.text) ∷ []) rest))
      joined (Err m) = refl

  pub numbers_stop : (f : Fault) (i : ℕ) (k : Kept) (done : List (ℤ × Text)) (all : Answer (List (ℤ × Text))) → i < length ks → k ≡ get_or ks i k → Stops f (number d k.text)
      → (numbered d (drop i (texts ks)) >>= λ rest. Ok (done ++ rest)) ≡ all → Stops f all
  numbers_stop f i k done all h e s so_far =
      stops_same f _ _ (sym (ap (λ es. numbered d es >>= λ rest. Ok (done ++ rest)) (texts_at ks i k h e)) ∙ so_far)
      (stops_first f _ (λ rest. Ok (done ++ rest)) (stops_first f (number d k.text) (λ m. numbered d (drop (i + 1) (texts ks)) >>= λ rest. Ok ((m, k.text) ∷ rest)) s))

-- ---- ties

module _ {A : Type 0} (before : A → A → Bool) where
  pub last_ties : (xs : List A) (i : ℕ) → length xs ≤ i + 1 → ties_with_next before (drop i xs) ≡ false
  last_ties [] zero k = refl
  last_ties [] (suc i) k = refl
  last_ties (x ∷ []) zero k = refl
  last_ties (x ∷ y ∷ xs) zero k = absurd (omega arith)
  last_ties (x ∷ xs) (suc i) k = last_ties xs i (omega arith)
