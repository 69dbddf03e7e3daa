-- What is noted in the search.
use Rattle.std.proofs.Common.{◌≡◌, ℕ, zero, suc, ◌+◌, ◌≤◌, ◌<◌, List, [], ◌∷◌, ◌++◌, length, Option, Some, None, Bool, true, false, refl, sym, ap, ◌∙◌, subst, arith, set, get_or, ◌⊎◌, inl, inr, IsTrue, ◌↔◌, cond, length-set, take, drop}
use Rattle.std.specs.Prelude.{slice_get}
use Rattle.std.specs.List.{insert}
use Rattle.std.proofs.lemmas.List.{take-append-drop}
use Rattle.std.proofs.lemmas.List.Edits.{length-insert}
use Rattle.std.proofs.lemmas.List.Sums.{sum_by-set}
use Rattle.tcl_code.specs.declared.shape.Shape.{Shape}
use Rattle.tcl_code.specs.Search.{Has, Shapes, flat, shape_at, unknown, left_over, Noted}

pub has_left : {A : Type 0} (xs ys : List A) (x : A) → Has xs x → Has (xs ++ ys) x
has_left [] ys x h = elim h [ ]
has_left (y ∷ xs) ys x (inl e) = inl e
has_left (y ∷ xs) ys x (inr h) = inr (has_left xs ys x h)

pub has_right : {A : Type 0} (xs ys : List A) (x : A) → Has ys x → Has (xs ++ ys) x
has_right [] ys x h = h
has_right (y ∷ xs) ys x h = inr (has_right xs ys x h)

pub has_either : {A : Type 0} (xs ys : List A) (x : A) → Has (xs ++ ys) x → Has xs x ⊎ Has ys x
has_either [] ys x h = inr h
has_either (y ∷ xs) ys x (inl e) = inl (inl e)
has_either (y ∷ xs) ys x (inr h) = elim (has_either xs ys x h) [ inl a ↦ inl (inr a) | inr b ↦ inr b ]

get_same : {A : Type 0} (xs : List A) (i : ℕ) (v : A) → i < length xs → slice_get (set xs i v) i ≡ Some v
get_same [] i v h = absurd (omega arith)
get_same (x ∷ xs) zero v h = refl
get_same (x ∷ xs) (suc i) v h = get_same xs i v (omega arith)

get_other : {A : Type 0} (xs : List A) (i j : ℕ) (v : A) → (j ≡ i → ⊥) → slice_get (set xs i v) j ≡ slice_get xs j
get_other [] i j v h = refl
get_other (x ∷ xs) zero zero v h = absurd (h refl)
get_other (x ∷ xs) zero (suc j) v h = refl
get_other (x ∷ xs) (suc i) zero v h = refl
get_other (x ∷ xs) (suc i) (suc j) v h = get_other xs i j v (λ e. h (ap suc e))

true_only : (a b : Shape) (r : Bool) → (IsTrue r ↔ (a ≡ b)) → r ≡ true → a ≡ b
true_only a b true h e = h.0 refl
true_only a b false h e = absurd (cc)

false_only : (a b : Shape) (r : Bool) → (IsTrue r ↔ (a ≡ b)) → r ≡ false → a ≡ b → ⊥
false_only a b true h e = absurd (cc)
false_only a b false h e = λ k. absurd (let t : false ≡ true = h.1 k in cc)

-- where a shape stands already
pub noted_there : (shapes : Shapes) (pending : List ℕ) (q : ℕ) (s : Shape) (r : Bool) (t : Shape) (o : Option Shape) → o ≡ shape_at shapes q → o ≡ Some t → (IsTrue r ↔ (t ≡ s)) → Noted r (q ∷ []) s shapes pending shapes pending
noted_there shapes pending q s r t o e is h =
    let at : shape_at shapes q ≡ Some t = sym e ∙ is in
    record {
      there = λ y p m. elim m [ inl k ↦ ap (shape_at shapes) k ∙ at ∙ ap Some (true_only t s r h y) | inr k ↦ elim k [ ] ];
      clash = λ n. (q, t, inl refl, at, false_only t s r h n);
      kept = λ p u k. k;
      only = λ p u k. inl k;
      waits = λ p k. k;
      long = refl;
      less = omega arith;
    }

same_or : (p q : ℕ) → (p ≡ q) ⊎ (p ≡ q → ⊥)
same_or zero zero = inl refl
same_or zero (suc q) = inr (λ e. omega arith)
same_or (suc p) zero = inr (λ e. omega arith)
same_or (suc p) (suc q) = elim (same_or p q) [ inl e ↦ inl (ap suc e) | inr n ↦ inr (λ e. n (omega arith)) ]

kept_new : (shapes : Shapes) (q : ℕ) (v : Shape) → shape_at shapes q ≡ None → (p : ℕ) (s : Shape) → shape_at shapes p ≡ Some s → shape_at (set shapes q (Some v)) p ≡ Some s
kept_new shapes q v none p s k = elim (same_or p q) [
  | inl e ↦ absurd (let f : shape_at shapes p ≡ None = ap (shape_at shapes) e ∙ none in cc)
  | inr n ↦ ap flat (get_other shapes q p (Some v) n) ∙ k
]

only_new : (shapes : Shapes) (new_pending : List ℕ) (q : ℕ) (s : Shape) → q < length shapes → Has new_pending q → (p : ℕ) (t : Shape) → shape_at (set shapes q (Some s)) p ≡ Some t → (shape_at shapes p ≡ Some t) ⊎ (Has (q ∷ []) p × (t ≡ s) × Has new_pending p)
only_new shapes new_pending q s l h p t k = elim (same_or p q) [
  | inl e ↦ inr (let f : Some s ≡ Some t = sym (ap flat (get_same shapes q (Some s) l)) ∙ ap (shape_at (set shapes q (Some s))) (sym e) ∙ k in
      let g : t ≡ s = cc in
      (inl e, g, let P : ℕ → Type 0 = λ n. Has new_pending n in subst P (sym e) h))
  | inr n ↦ inl (sym (ap flat (get_other shapes q p (Some s) n)) ∙ k)
]

abbrev weight : Option Shape → ℕ
weight o = cond (unknown o) 1 0

get_at : (shapes : Shapes) (q : ℕ) (d : Option Shape) → q < length shapes → get_or shapes q d ≡ shape_at shapes q
get_at [] q d l = absurd (omega arith)
get_at (x ∷ xs) zero d l = refl
get_at (x ∷ xs) (suc q) d l = get_at xs q d (omega arith)

fewer : (shapes : Shapes) (pending new_pending : List ℕ) (q : ℕ) (v : Shape) → q < length shapes → shape_at shapes q ≡ None → length new_pending ≡ length pending + 1 → left_over (set shapes q (Some v)) new_pending ≤ left_over shapes pending
fewer shapes pending new_pending q v l none d =
    let a = sum_by-set weight shapes q (Some v) None l in
    let b : weight (get_or shapes q None) ≡ weight None = ap weight (get_at shapes q None l ∙ none) in
    omega (arith, a, b, d)

noted_set : (shapes : Shapes) (pending new_pending : List ℕ) (q : ℕ) (s : Shape) → q < length shapes → shape_at shapes q ≡ None → Has new_pending q → ((p : ℕ) → Has pending p → Has new_pending p) → length new_pending ≡ length pending + 1 → Noted true (q ∷ []) s shapes pending (set shapes q (Some s)) new_pending
noted_set shapes pending new_pending q s l none there waits long = record {
  there = λ y p m. elim m [ inl j ↦ ap (shape_at (set shapes q (Some s))) j ∙ ap flat (get_same shapes q (Some s) l) | inr j ↦ elim j [ ] ];
  clash = λ t. absurd (cc);
  kept = kept_new shapes q s none;
  only = only_new shapes new_pending q s l there;
  waits = waits;
  long = length-set shapes q (Some s);
  less = fewer shapes pending new_pending q s l none long;
}

-- where no shape stands yet
pub noted_new : (shapes new : Shapes) (pending new_pending : List ℕ) (q : ℕ) (s : Shape) (o : Option Shape) → q < length shapes → o ≡ shape_at shapes q → o ≡ None → Has new_pending q → ((p : ℕ) → Has pending p → Has new_pending p) → length new_pending ≡ length pending + 1 → new ≡ set shapes q (Some s) → Noted true (q ∷ []) s shapes pending new new_pending
noted_new shapes new pending new_pending q s o l e n there waits long put =
    let P : Shapes → Type 0 = λ x. Noted true (q ∷ []) s shapes pending x new_pending in
    subst P (sym put) (noted_set shapes pending new_pending q s l (sym e ∙ n) there waits long)

-- a place that is put among those that wait
pub waits_there : (old new : List ℕ) (i q : ℕ) → new ≡ insert old i q → Has new q
waits_there old new i q e = let P : List ℕ → Type 0 = λ x. Has x q in subst P (sym e) (has_right (take i old) (q ∷ drop i old) q (inl refl))

waits_in : (xs ys : List ℕ) (p q : ℕ) → Has (xs ++ ys) p → Has (xs ++ q ∷ ys) p
waits_in xs ys p q h = elim (has_either xs ys p h) [ inl a ↦ has_left xs (q ∷ ys) p a | inr b ↦ has_right xs (q ∷ ys) p (inr b) ]

pub still_waits : (old new : List ℕ) (i q : ℕ) → new ≡ insert old i q → (p : ℕ) → Has old p → Has new p
still_waits old new i q e p h =
    let P : List ℕ → Type 0 = λ x. Has x p in
    subst P (sym e) (waits_in (take i old) (drop i old) p q (subst P (sym (take-append-drop i old)) h))

pub one_more_waits : (old new : List ℕ) (i q : ℕ) → i ≤ length old → new ≡ insert old i q → length new ≡ length old + 1
one_more_waits old new i q l e = ap length e ∙ length-insert old i q l

pub noted_none : (s : Shape) (shapes : Shapes) (pending : List ℕ) → Noted true [] s shapes pending shapes pending
noted_none s shapes pending = record {
  there = λ t p h. elim h [ ];
  clash = λ t. absurd (cc);
  kept = λ p t k. k;
  only = λ p t k. inl k;
  waits = λ p h. h;
  long = refl;
  less = omega arith;
}

-- one after the other
noted_both : (f : Bool) (xs ys : List ℕ) (s : Shape) (a : Shapes) (ap' : List ℕ) (b : Shapes) (bp : List ℕ) (c : Shapes) (cp : List ℕ) → Noted true xs s a ap' b bp → Noted f ys s b bp c cp → Noted f (xs ++ ys) s a ap' c cp
noted_both f xs ys s a ap' b bp c cp m n = record {
  there = λ t p h. elim (has_either xs ys p h) [ inl l ↦ n.kept p s (m.there refl p l) | inr r ↦ n.there t p r ];
  clash = λ t. let k = n.clash t in (k.0, k.1, has_right xs ys k.0 k.2, k.3, k.4);
  kept = λ p t k. n.kept p t (m.kept p t k);
  only = λ p t k. elim (n.only p t k) [ inl l ↦ elim (m.only p t l) [ inl i ↦ inl i | inr j ↦ inr (has_left xs ys p j.0, j.1, n.waits p j.2) ] | inr r ↦ inr (has_right xs ys p r.0, r.1, r.2) ];
  waits = λ p h. n.waits p (m.waits p h);
  long = n.long ∙ m.long;
  less = omega (arith, m.less, n.less);
}

pub noted_then : (e f : Bool) (xs ys : List ℕ) (s : Shape) (a : Shapes) (ap' : List ℕ) (b : Shapes) (bp : List ℕ) (c : Shapes) (cp : List ℕ) → e ≡ true → Noted e xs s a ap' b bp → Noted f ys s b bp c cp → Noted f (xs ++ ys) s a ap' c cp
noted_then e f xs ys s a ap' b bp c cp k m n = let P : Bool → Type 0 = λ z. Noted z xs s a ap' b bp in noted_both f xs ys s a ap' b bp c cp (subst P k m) n

-- the rest isn't noted after a clash
noted_clash : (xs ys : List ℕ) (s : Shape) (a : Shapes) (ap' : List ℕ) (b : Shapes) (bp : List ℕ) → Noted false xs s a ap' b bp → Noted false (xs ++ ys) s a ap' b bp
noted_clash xs ys s a ap' b bp n = record {
  there = λ t. absurd (cc);
  clash = λ t. let k = n.clash t in (k.0, k.1, has_left xs ys k.0 k.2, k.3, k.4);
  kept = n.kept;
  only = λ p t k. elim (n.only p t k) [ inl l ↦ inl l | inr r ↦ inr (has_left xs ys p r.0, r.1, r.2) ];
  waits = n.waits;
  long = n.long;
  less = n.less;
}

pub noted_stop : (e : Bool) (xs ys : List ℕ) (s : Shape) (a : Shapes) (ap' : List ℕ) (b : Shapes) (bp : List ℕ) → e ≡ false → Noted e xs s a ap' b bp → Noted false (xs ++ ys) s a ap' b bp
noted_stop e xs ys s a ap' b bp k n = let P : Bool → Type 0 = λ z. Noted z xs s a ap' b bp in noted_clash xs ys s a ap' b bp (subst P k n)
