-- Elements that are put into an array and taken out of it one after another.
use Rattle.std.proofs.Common.{◌≡◌, ℕ, zero, suc, ◌+◌, ◌<◌, ◌≤◌, List, [], ◌∷◌, length, drop, get_or, map as each, refl, ap, ◌∙◌, arith}
use Rattle.std.specs.FinMap as map
use Rattle.tcl_pages.specs.Texts.{Text}
use Rattle.tcl_meaning.specs.Arrays.{Elements}
use Rattle.tcl_frames.specs.Edits.{with_pairs, without_names}

module _ {A : Type 0} (f : A → Text) where
  one_out : (xs : List A) (i : ℕ) (x : A) (m new : Elements) → i < length xs → x ≡ get_or xs i x → new ≡ map.remove m (f x)
      → without_names new (drop (suc i) (each f xs)) ≡ without_names m (drop i (each f xs))
  one_out [] i x m new l e r = absurd (omega arith)
  one_out (y ∷ xs) zero x m new l e r = ap (λ n. without_names n (each f xs)) (r ∙ ap (λ z. map.remove m (f z)) e)
  one_out (y ∷ xs) (suc i) x m new l e r = one_out xs i x m new (omega (arith, l)) e r

  pub name_out : (xs : List A) (i : ℕ) (x : A) (m new : Elements) → i < length xs → x ≡ get_or xs i x → new ≡ map.remove m (f x)
      → without_names new (drop (i + 1) (each f xs)) ≡ without_names m (drop i (each f xs))
  name_out xs i x m new l e r = let n : i + 1 ≡ suc i = omega arith in ap (λ k. without_names new (drop k (each f xs))) n ∙ one_out xs i x m new l e r

  two_in : (xs : List A) (i : ℕ) (x y : A) (m new : Elements) → suc i < length xs → x ≡ get_or xs i x → y ≡ get_or xs (suc i) y → new ≡ map.insert m (f x) (f y)
      → with_pairs new (drop (suc (suc i)) (each f xs)) ≡ with_pairs m (drop i (each f xs))
  two_in [] i x y m new l e d r = absurd (omega arith)
  two_in (a ∷ []) zero x y m new l e d r = absurd (omega arith)
  two_in (a ∷ b ∷ xs) zero x y m new l e d r = ap (λ n. with_pairs n (each f xs)) (r ∙ ap (λ z. map.insert m (f z) (f y)) e ∙ ap (λ z. map.insert m (f a) (f z)) d)
  two_in (a ∷ xs) (suc i) x y m new l e d r = two_in xs i x y m new (omega (arith, l)) e d r

  pub pair_in : (xs : List A) (i : ℕ) (x y : A) (m new : Elements) → i + 1 < length xs → x ≡ get_or xs i x → y ≡ get_or xs (i + 1) y → new ≡ map.insert m (f x) (f y)
      → with_pairs new (drop (i + 2) (each f xs)) ≡ with_pairs m (drop i (each f xs))
  pair_in xs i x y m new l e d r =
      let one : i + 1 ≡ suc i = omega arith in
      let two : i + 2 ≡ suc (suc i) = omega arith in
      ap (λ k. with_pairs new (drop k (each f xs))) two ∙ two_in xs i x y m new (omega (arith, l)) e (d ∙ ap (λ k. get_or xs k y) one) r

  over : (xs : List A) (i : ℕ) (m : Elements) → length xs ≤ suc i → with_pairs m (drop i (each f xs)) ≡ m
  over [] zero m l = refl
  over [] (suc i) m l = refl
  over (a ∷ []) zero m l = refl
  over (a ∷ b ∷ xs) zero m l = absurd (omega arith)
  over (a ∷ xs) (suc i) m l = over xs i m (omega (arith, l))

  pub pairs_over : (xs : List A) (i : ℕ) (m : Elements) → length xs ≤ i + 1 → with_pairs m (drop i (each f xs)) ≡ m
  pairs_over xs i m l = over xs i m (omega (arith, l))
