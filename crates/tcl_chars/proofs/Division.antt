-- Division: the quotient is rounded down, and the remainder has the divisor's sign.
use Rattle.std.proofs.Common.{◌≡◌, ℕ, zero, suc, ◌+◌, ◌-◌, ◌*◌, ◌/◌, ◌%◌, ◌<◌, sym, ap, ◌∙◌, subst, refl, arith, ℤ, pos, negsuc, neg_ℤ, ◌+ℤ◌, ◌*ℤ◌}
use Rattle.std.specs.Int.{int_div_euclid, int_rem_euclid}
use Rattle.std.proofs.Math.IntN.{pos-*ℤ-pos, pos-*ℤ-negsuc, negsuc-*ℤ-pos, *ℤ-negsuc, neg_ℤ-neg_ℤ, neg_ℤ-+ℤ}
use Rattle.std.proofs.lemmas.Bool.{cond-false, le-ltb}
use Rattle.std.proofs.lemmas.Int.{ints}
use Rattle.tcl_chars.specs.Arith.{floor_div, floor_mod}
use Rattle.tcl_chars.specs.Laws.{IsRemainder, DivisionIsExact}

-- the remainder by a divisor of n is below it
record Below (r : ℤ) (n : ℕ) : Type 0 where
  size : ℕ
  is : r ≡ pos size
  small : size < n

down : (m n : ℕ) → 0 < n → negsuc m ≡ neg_ℤ (pos (n * suc (m / n))) +ℤ pos (n - 1 - m % n)
down m n h = omega (arith, ints)

exact_above : (a : ℤ) (n : ℕ) → 0 < n → a ≡ (pos n *ℤ int_div_euclid a (pos n)) +ℤ int_rem_euclid a (pos n)
exact_above (pos m) n h =
    let e : m ≡ n * (m / n) + m % n = omega arith in
    ap pos e ∙ ap (λ z. z +ℤ pos (m % n)) (sym (pos-*ℤ-pos n (m / n)))
exact_above (negsuc m) n h = down m n h ∙ ap (λ z. z +ℤ pos (n - 1 - m % n)) (sym (pos-*ℤ-negsuc n (m / n)))

below : (a : ℤ) (n : ℕ) → 0 < n → Below (int_rem_euclid a (pos n)) n
below (pos m) n h = record { size = m % n; is = refl; small = omega arith }
below (negsuc m) n h = record { size = n - 1 - m % n; is = refl; small = omega arith }

by_positive : (a : ℤ) (n : ℕ) → (floor_div a (pos n) ≡ int_div_euclid a (pos n)) × (floor_mod a (pos n) ≡ int_rem_euclid a (pos n))
by_positive a n = (cond-false _ _ _ (le-ltb n 0 (omega arith)), cond-false _ _ _ (le-ltb n 0 (omega arith)))

remains_above : (r : ℤ) (n : ℕ) → Below r n → IsRemainder (pos n) r
remains_above r n b = subst (IsRemainder (pos n)) (sym b.is) (omega (arith, ints), omega (arith, ints, b.small))

remains_below : (r : ℤ) (k : ℕ) → Below r (suc k) → IsRemainder (negsuc k) (neg_ℤ r)
remains_below r k b = subst (λ z. IsRemainder (negsuc k) (neg_ℤ z)) (sym b.is) (omega (arith, ints, b.small), omega (arith, ints))

times_negative : (k y : ℕ) → neg_ℤ (pos (suc k) *ℤ pos y) ≡ negsuc k *ℤ pos y
times_negative k y = ap neg_ℤ (pos-*ℤ-pos (suc k) y) ∙ sym (negsuc-*ℤ-pos k y)

opposite_times : (k : ℕ) (q : ℤ) → neg_ℤ (pos (suc k) *ℤ q) ≡ negsuc k *ℤ q
opposite_times k (pos y) = times_negative k y
opposite_times k (negsuc y) = ap neg_ℤ (*ℤ-negsuc (pos (suc k)) y) ∙ ap neg_ℤ (times_negative k (suc y)) ∙ sym (*ℤ-negsuc (negsuc k) y)

exact_below : (a : ℤ) (k : ℕ) → a ≡ (negsuc k *ℤ floor_div a (negsuc k)) +ℤ floor_mod a (negsuc k)
exact_below a k =
    let q = int_div_euclid (neg_ℤ a) (pos (suc k)) in
    let r = int_rem_euclid (neg_ℤ a) (pos (suc k)) in
    sym (neg_ℤ-neg_ℤ a) ∙ ap neg_ℤ (exact_above (neg_ℤ a) (suc k) (omega arith)) ∙ neg_ℤ-+ℤ (pos (suc k) *ℤ q) r ∙ ap (λ z. z +ℤ neg_ℤ r) (opposite_times k q)

pub division_is_exact : DivisionIsExact
division_is_exact a (pos zero) h = absurd (h refl)
division_is_exact a (pos (suc n)) h =
    let p = by_positive a (suc n) in
    let e : (pos (suc n) *ℤ int_div_euclid a (pos (suc n))) +ℤ int_rem_euclid a (pos (suc n)) ≡ (pos (suc n) *ℤ floor_div a (pos (suc n))) +ℤ floor_mod a (pos (suc n)) =
    ap (λ z. (pos (suc n) *ℤ z) +ℤ int_rem_euclid a (pos (suc n))) (sym p.0) ∙ ap (λ z. (pos (suc n) *ℤ floor_div a (pos (suc n))) +ℤ z) (sym p.1) in
    (exact_above a (suc n) (omega arith) ∙ e, subst (IsRemainder (pos (suc n))) (sym p.1) (remains_above (int_rem_euclid a (pos (suc n))) (suc n) (below a (suc n) (omega arith))))
division_is_exact a (negsuc k) h = (exact_below a k, remains_below (int_rem_euclid (neg_ℤ a) (pos (suc k))) k (below (neg_ℤ a) (suc k) (omega arith)))
