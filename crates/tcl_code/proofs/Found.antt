-- The search's beginning and its end.
use Rattle.std.proofs.Common.{◌≡◌, ℕ, zero, suc, ◌-◌, ◌<◌, List, [], ◌∷◌, ◌++◌, take, Option, Some, None, Bool, true, false, refl, sym, ap, ◌∙◌, subst, arith, ◌⊎◌, inl, inr}
use Rattle.std.specs.Prelude.{slice_get}
use Rattle.tcl_code.specs.Instructions.{Instruction}
use Rattle.tcl_code.specs.declared.shape.Shape.{Shape}
use Rattle.tcl_code.specs.Valid.{Target, target, HasWay, ways_at, ComesIn, Covers, IsWithin, Valid, bare}
use Rattle.tcl_code.specs.Search.{Has, Shapes, shape_at, Noted, Sound, Followed, Settled, Closed}
use Rattle.tcl_code.proofs.Settling.{way_reached}

-- ---- the start

module _ (shapes new : Shapes) (new_pending : List ℕ) (none : (p : ℕ) → shape_at shapes p ≡ None) where
  start_only : (fits : Bool) → Noted fits (0 ∷ []) bare shapes [] new new_pending → (p : ℕ) (s : Shape) → shape_at new p ≡ Some s → (p ≡ 0) × (s ≡ bare) × Has new_pending p
  start_only fits n p s k = elim (n.only p s k) [
    | inl o ↦ absurd (let f = none p in cc)
    | inr j ↦ elim j.0 [ inl e ↦ (e, j.1, j.2) | inr z ↦ elim z [ ] ]
  ]

  start_at : (fits : Bool) → Noted fits (0 ∷ []) bare shapes [] new new_pending → shape_at new 0 ≡ Some bare
  start_at true n = n.there refl 0 (inl refl)
  start_at false n = let k = n.clash refl in let e = start_only false n k.0 k.1 k.3 in absurd (k.4 e.1)

module _ (fits : Bool) (shapes new : Shapes) (pending new_pending : List ℕ) (s : Shape) (is : s ≡ bare) (none : (p : ℕ) → shape_at shapes p ≡ None) (e : pending ≡ []) (n : Noted fits (0 ∷ []) s shapes pending new new_pending) where
  noted : Noted fits (0 ∷ []) bare shapes [] new new_pending
  noted =
      let P : List ℕ → Type 0 = λ x. Noted fits (0 ∷ []) s shapes x new new_pending in
      let Q : Shape → Type 0 = λ x. Noted fits (0 ∷ []) x shapes [] new new_pending in
      subst Q is (subst P e n)

  pub started_at : shape_at new 0 ≡ Some bare
  started_at = start_at shapes new new_pending none fits noted

  pub started_sound : (code : List Instruction) → Sound code new
  started_sound code = record { comes = λ p t k. let o = start_only shapes new new_pending none fits noted p t k in record { steps = 0; comes = (o.0, o.1) } }

  pub started_closed : (code : List Instruction) → Closed code new new_pending
  started_closed code = record { settled = λ p t k. inl ((start_only shapes new new_pending none fits noted p t k).2) }

-- ---- the end

followed_way : (o : Option Instruction) (shapes : Shapes) (p : ℕ) (s : Shape) (k : Target) (t : Shape) → Followed o shapes p s → HasWay (ways_at o s) k t → shape_at shapes (target p k) ≡ Some t
followed_way None shapes p s k t f h = elim h [ ]
followed_way (Some i) shapes p s k t f h = elim (way_reached p s i k t h) [
  | inl r ↦ f.0 (target p k) r.0 ∙ ap Some (sym r.1)
  | inr r ↦ f.1 (target p k) r.0 ∙ ap Some (sym r.1)
]

module _ (code : List Instruction) (shapes : Shapes) (at : shape_at shapes 0 ≡ Some bare) (closed : Closed code shapes []) where
  here : (p : ℕ) (s : Shape) → shape_at shapes p ≡ Some s → Settled code shapes p s
  here p s k = elim (closed.settled p s k) [ inl z ↦ elim z [ ] | inr d ↦ d ]

  pub found : (n p : ℕ) (s : Shape) → ComesIn code n p s → shape_at shapes p ≡ Some s
  found zero p s c = ap (shape_at shapes) c.0 ∙ at ∙ ap Some (sym c.1)
  found (suc n) p s c = ap (shape_at shapes) c.5 ∙ followed_way (slice_get code c.0) shapes c.0 c.1 c.2 s (here c.0 c.1 (found n c.0 c.1 c.3)).there c.4

  all_found : Valid code
  all_found = record {
    fine = λ p s c. (here p s (found c.steps p s c.comes)).fine;
    agree = λ p s t c d. let a = found c.steps p s c.comes in let b = found d.steps p t d.comes in let e : Some s ≡ Some t = sym a ∙ b in cc;
  }

pub all_covered : (code : List Instruction) (shapes : Shapes) (top : Shape) → shape_at shapes 0 ≡ Some bare → Closed code shapes [] → ((p : ℕ) (s : Shape) → shape_at shapes p ≡ Some s → IsWithin s top) → Covers code top
all_covered code shapes top at closed h = record { each = λ p s c. h p s (found code shapes at closed c.steps p s c.comes) }

pub nothing_waits : (code : List Instruction) (shapes : Shapes) (pending : List ℕ) → pending ≡ [] → shape_at shapes 0 ≡ Some bare → Closed code shapes pending → Valid code
nothing_waits code shapes pending e at closed = let P : List ℕ → Type 0 = λ x. Closed code shapes x in all_found code shapes at (subst P e closed)

pub nothing_popped : {A : Type 0} (xs ys : List A) (n : ℕ) → n ≡ 0 → ys ≡ take (n - 1) xs → xs ≡ ys ++ [] → xs ≡ []
nothing_popped [] ys n e f g = refl
nothing_popped (x ∷ xs) ys n e f g = g ∙ ap (λ z. z ++ []) (f ∙ ap (λ k. take (k - 1) (x ∷ xs)) e)

-- ---- a shape that covers those that were found

pub within_on : (a b c : Shape) → IsWithin a b → IsWithin b c → IsWithin a c
within_on a b c h k = record {
  height = omega (arith, h.height, k.height);
  lists = omega (arith, h.lists, k.lists);
  depth = omega (arith, h.depth, k.depth);
  paid = omega (arith, h.paid, k.paid);
  loops = omega (arith, h.loops, k.loops);
}

pub earlier_or_here : (p n : ℕ) → p < suc n → (p < n) ⊎ (p ≡ n)
earlier_or_here zero zero l = inr refl
earlier_or_here zero (suc n) l = inl (omega arith)
earlier_or_here (suc p) zero l = absurd (omega arith)
earlier_or_here (suc p) (suc n) l = elim (earlier_or_here p n (omega arith)) [ inl h ↦ inl (omega arith) | inr e ↦ inr (ap suc e) ]
