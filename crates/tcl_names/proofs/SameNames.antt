-- Bytes that are compared one by one.
use Rattle.std.proofs.Common.{ℕ, ◌+◌, ◌<◌, ◌≤◌, suc, List, [], ◌∷◌, true, ◌≡◌, ◌&&◌, nat_eq, sym, ap, ◌∙◌, length, get_or, drop, arith, add-one, drop-cons, eq-eqb}
use Rattle.std.proofs.lemmas.List.{drop_all}
use Rattle.std.specs.Cmp.Lexicographic.{pointwise}

module _ (xs ys : List ℕ) (i : ℕ) where
  -- what lies behind two bytes that are alike tells the same
  pub one_more : i < length xs → length xs ≡ length ys → get_or xs i 0 ≡ get_or ys i 0 → pointwise nat_eq (drop (i + 1) xs) (drop (i + 1) ys) ≡ pointwise nat_eq (drop i xs) (drop i ys)
  one_more low size same =
      ap (λ j. pointwise nat_eq (drop j xs) (drop j ys)) (add-one i)
      ∙ sym (ap (λ zs. pointwise nat_eq zs (drop i ys)) (drop-cons xs i 0 low) ∙ ap (pointwise nat_eq (get_or xs i 0 ∷ drop (suc i) xs)) (drop-cons ys i 0 (omega (arith, low, size)))
      ∙ ap (λ b. b && pointwise nat_eq (drop (suc i) xs) (drop (suc i) ys)) (eq-eqb _ _ same))

  -- where nothing lies behind, they are alike
  pub none_more : length xs ≤ i → length xs ≡ length ys → true ≡ pointwise nat_eq (drop i xs) (drop i ys)
  none_more past size = sym (ap (λ zs. pointwise nat_eq zs (drop i ys)) (drop_all i xs past) ∙ ap (pointwise nat_eq []) (drop_all i ys (omega (arith, past, size))))
