-- A valid code behind a valid code is valid.
use Rattle.std.proofs.Common.{◌≡◌, ℕ, zero, suc, ◌+◌, ◌<◌, ◌≤◌, List, ◌++◌, length, Option, Some, None, refl, sym, ap, ◌∙◌, subst, arith, ◌⊎◌, inl, inr, ⊎_elim, length-append}
use Rattle.std.specs.Prelude.{slice_get}
use Rattle.std.proofs.lemmas.Bool.{cases_lt}
use Rattle.std.proofs.lemmas.Option.{slice_get_past}
use Rattle.tcl_code.specs.Instructions.{Instruction}
use Rattle.tcl_code.specs.Valid.{Shape, Target, target, IsInside, ways_of, ways_at, HasWay, Comes, ComesIn, Covers, FineOrEnd, IsWithin, Valid}
use Rattle.tcl_code.proofs.Found.{within_on}
use Rattle.tcl_code.proofs.Settling.{is_fine}
use Rattle.tcl_code.proofs.Shapes.{each_has, each_weaker, inside_le, inside_more, inside_behind, target_behind, at_front, at_back, none_some}

module _ (a b : List Instruction) (va : Valid a) (vb : Valid b) where
  -- a way through both is one through the first, or one through the second
  abbrev Here : ℕ → Shape → Type 0
  Here p s = ((p < length a) × Comes a p s) ⊎ ((q : ℕ) × (p ≡ length a + q) × Comes b q s)

  -- where the first ends the second begins
  split : (p : ℕ) (s : Shape) → p ≤ length a → Comes a p s → Here p s
  split p s le c = ⊎_elim (λ lt. inl (lt, c)) (λ ge. ended ge) (cases_lt p (length a))
    where
      ended : length a ≤ p → Here p s
      ended ge =
          let f = is_fine a p s None (slice_get_past a p ge) (va.fine p s c) in
          inr (0, omega (arith, ge, le), record { steps = 0; comes = (refl, f.1) })

  on_front : (p place : ℕ) (k : Target) (t s : Shape) (o : Option Instruction) → p < length a → Comes a p t → slice_get (a ++ b) p ≡ o → HasWay (ways_at o t) k s → place ≡ target p k → Here place s
  on_front p place k t s None lt c e w n = absurd w
  on_front p place k t s (Some i) lt c e w n =
      let is = at_front a b p i lt e in
      let fine = is_fine a p t (Some i) is (va.fine p t c) in
      let inside = each_has (λ j v. IsInside p (length a) j) (ways_of i t) k s fine.1 w in
      let le = inside_le p (length a) k lt inside in
      let P : Option Instruction → Type 0 = λ x. HasWay (ways_at x t) k s in
      split place s (omega (arith, n, le)) (record { steps = suc c.steps; comes = (p, t, k, c.comes, subst P (sym is) w, n) })

  on_back : (p q place : ℕ) (k : Target) (t s : Shape) (o : Option Instruction) → p ≡ length a + q → Comes b q t → slice_get (a ++ b) p ≡ o → HasWay (ways_at o t) k s → place ≡ target p k → Here place s
  on_back p q place k t s None m c e w n = absurd w
  on_back p q place k t s (Some i) m c e w n =
      let is = at_back a b q i (ap (slice_get (a ++ b)) (sym m) ∙ e) in
      let fine = is_fine b q t (Some i) is (vb.fine q t c) in
      let inside = each_has (λ j v. IsInside q (length b) j) (ways_of i t) k s fine.1 w in
      let P : Option Instruction → Type 0 = λ x. HasWay (ways_at x t) k s in
      inr (target q k, n ∙ target_behind (length a) q p (length b) k m inside, record { steps = suc c.steps; comes = (q, t, k, c.comes, subst P (sym is) w, refl) })

  here : (n p : ℕ) (s : Shape) → ComesIn (a ++ b) n p s → Here p s
  here zero p s c = let z = c.0 in split p s (omega (arith, z)) (record { steps = 0; comes = c })
  here (suc n) p s c = elim (here n c.0 c.1 c.3) [
    | inl x ↦ on_front c.0 p c.2 c.1 s (slice_get (a ++ b) c.0) x.0 x.1 refl c.4 c.5
    | inr y ↦ on_back c.0 y.0 p c.2 c.1 s (slice_get (a ++ b) c.0) y.1 y.2 refl c.4 c.5
  ]

  longer : length a ≤ length (a ++ b)
  longer = let e = length-append a b in omega (arith, e)

  fine_front : (p : ℕ) (s : Shape) (o : Option Instruction) → p < length a → Comes a p s → slice_get (a ++ b) p ≡ o → FineOrEnd (a ++ b) p s o
  fine_front p s None lt c e = absurd (none_some (a ++ b) p e (let l = longer in omega (arith, l, lt)))
  fine_front p s (Some i) lt c e =
      let fine = is_fine a p s (Some i) (at_front a b p i lt e) (va.fine p s c) in
      (fine.0, each_weaker (λ k t. IsInside p (length a) k) (λ k t. IsInside p (length (a ++ b)) k) (ways_of i s) fine.1 (λ k t h. inside_more p (length a) (length (a ++ b)) k longer h))

  ended_back : (p q : ℕ) → p ≡ length a + q → slice_get (a ++ b) p ≡ None → length b ≤ q
  ended_back p q m e = ⊎_elim (λ lt. absurd (none_some (a ++ b) p e (let l = length-append a b in omega (arith, l, m, lt)))) (λ ge. ge) (cases_lt q (length b))

  fine_back : (p q : ℕ) (s : Shape) (o : Option Instruction) → p ≡ length a + q → Comes b q s → slice_get (a ++ b) p ≡ o → FineOrEnd (a ++ b) p s o
  fine_back p q s None m c e =
      let fine = is_fine b q s None (slice_get_past b q (ended_back p q m e)) (vb.fine q s c) in
      let f = fine.0 in
      let l = length-append a b in
      (omega (arith, m, f, l), fine.1)
  fine_back p q s (Some i) m c e =
      let fine = is_fine b q s (Some i) (at_back a b q i (ap (slice_get (a ++ b)) (sym m) ∙ e)) (vb.fine q s c) in
      let l = length-append a b in
      (fine.0, each_weaker (λ k t. IsInside q (length b) k) (λ k t. IsInside p (length (a ++ b)) k) (ways_of i s) fine.1 (λ k t h. inside_behind (length a) q p (length b) (length (a ++ b)) k m (omega (arith, l)) h))

  fine_here : (p : ℕ) (s : Shape) → Here p s → FineOrEnd (a ++ b) p s (slice_get (a ++ b) p)
  fine_here p s (inl x) = fine_front p s (slice_get (a ++ b) p) x.0 x.1 refl
  fine_here p s (inr y) = fine_back p y.0 s (slice_get (a ++ b) p) y.1 y.2 refl

  agree_back : (q r : ℕ) (s t : Shape) → q ≡ r → Comes b q s → Comes b r t → s ≡ t
  agree_back q r s t e c d = let P : ℕ → Type 0 = λ x. Comes b x t in vb.agree q s t c (subst P (sym e) d)

  agree_here : (p : ℕ) (s t : Shape) → Here p s → Here p t → s ≡ t
  agree_here p s t (inl x) (inl y) = va.agree p s t x.1 y.1
  agree_here p s t (inl x) (inr y) = let lt = x.0 in let e = y.1 in absurd (omega (arith, lt, e))
  agree_here p s t (inr x) (inl y) = let e = x.1 in let lt = y.0 in absurd (omega (arith, e, lt))
  agree_here p s t (inr x) (inr y) = let e = x.1 in let f = y.1 in agree_back x.0 y.0 s t (omega (arith, e, f)) x.2 y.2

  pub joined : Valid (a ++ b)
  joined = record {
    fine = λ p s c. fine_here p s (here c.steps p s c.comes);
    agree = λ p s t c d. agree_here p s t (here c.steps p s c.comes) (here d.steps p t d.comes);
  }

  covered_here : (t u v : Shape) → Covers a t → Covers b u → IsWithin t v → IsWithin u v → (p : ℕ) (s : Shape) → Here p s → IsWithin s v
  covered_here t u v ca cb f g p s (inl x) = within_on s t v (ca.each p s x.1) f
  covered_here t u v ca cb f g p s (inr y) = within_on s u v (cb.each y.0 s y.2) g

  pub joined_covers : (t u v : Shape) → Covers a t → Covers b u → IsWithin t v → IsWithin u v → Covers (a ++ b) v
  joined_covers t u v ca cb f g = record { each = λ p s c. covered_here t u v ca cb f g p s (here c.steps p s c.comes) }
