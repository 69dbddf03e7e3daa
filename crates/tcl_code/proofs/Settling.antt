-- What a place that was looked at adds.
use Rattle.std.proofs.Common.{◌≡◌, ℕ, suc, List, [], ◌∷◌, ◌++◌, length, map, Option, Some, None, Bool, true, false, refl, sym, ap, ◌∙◌, subst, ◌⊎◌, inl, inr, IsTrue, ◌↔◌}
use Rattle.std.specs.Prelude.{slice_get}
use Rattle.tcl_code.specs.Instructions.{Instruction}
use Rattle.tcl_code.specs.declared.shape.Shape.{Shape}
use Rattle.tcl_code.specs.Valid.{Target, target, targets, inner_targets, left_by, inner, IsFine, IsInside, Ways, ways_of, ways_at, HasWay, EachWay, Comes, Valid, FineOrEnd, bare}
use Rattle.tcl_code.specs.Search.{Has, EachTarget, StaysInside, reached, begun, Shapes, shape_at, Noted, Sound, Followed, Settled, Closed}
use Rattle.tcl_code.proofs.Noting.{has_either}

-- ---- ways and targets

abbrev with_shape : Shape → List Target → Ways
with_shape s ks = map (λ k. (k, s)) ks

each_way : (P : Target → Type 0) (s : Shape) (ks : List Target) → EachTarget P ks → EachWay (λ k t. P k) (with_shape s ks)
each_way P s [] h = tt
each_way P s (k ∷ ks) h = (h.0, each_way P s ks h.1)

each_target : (P : Target → Type 0) (s : Shape) (ks : List Target) → EachWay (λ k t. P k) (with_shape s ks) → EachTarget P ks
each_target P s [] h = tt
each_target P s (k ∷ ks) h = (h.0, each_target P s ks h.1)

-- a way leads to a place that is reached, with the shape that is left
way_target : (p : ℕ) (s : Shape) (ks : List Target) (k : Target) (t : Shape) → HasWay (with_shape s ks) k t → Has (map (target p) ks) (target p k) × (t ≡ s)
way_target p s [] k t h = elim h [ ]
way_target p s (j ∷ ks) k t (inl e) = (inl (ap (target p) (sym e.0)), sym e.1)
way_target p s (j ∷ ks) k t (inr h) = let r = way_target p s ks k t h in (inr r.0, r.1)

-- ways one after another
way_either : (xs ys : Ways) (k : Target) (t : Shape) → HasWay (xs ++ ys) k t → HasWay xs k t ⊎ HasWay ys k t
way_either [] ys k t h = inr h
way_either (x ∷ xs) ys k t (inl e) = inl (inl e)
way_either (x ∷ xs) ys k t (inr h) = elim (way_either xs ys k t h) [ inl a ↦ inl (inr a) | inr b ↦ inr b ]

way_left : (xs ys : Ways) (k : Target) (t : Shape) → HasWay xs k t → HasWay (xs ++ ys) k t
way_left [] ys k t h = elim h [ ]
way_left (x ∷ xs) ys k t (inl e) = inl e
way_left (x ∷ xs) ys k t (inr h) = inr (way_left xs ys k t h)

way_right : (xs ys : Ways) (k : Target) (t : Shape) → HasWay ys k t → HasWay (xs ++ ys) k t
way_right [] ys k t h = h
way_right (x ∷ xs) ys k t h = inr (way_right xs ys k t h)

each_both : (P : Target → Shape → Type 0) (xs ys : Ways) → EachWay P xs → EachWay P ys → EachWay P (xs ++ ys)
each_both P [] ys h k = k
each_both P (x ∷ xs) ys h k = (h.0, each_both P xs ys h.1 k)

each_left : (P : Target → Shape → Type 0) (xs ys : Ways) → EachWay P (xs ++ ys) → EachWay P xs
each_left P [] ys h = tt
each_left P (x ∷ xs) ys h = (h.0, each_left P xs ys h.1)

each_right : (P : Target → Shape → Type 0) (xs ys : Ways) → EachWay P (xs ++ ys) → EachWay P ys
each_right P [] ys h = h
each_right P (x ∷ xs) ys h = each_right P xs ys h.1

pub way_reached : (p : ℕ) (s : Shape) (i : Instruction) (k : Target) (t : Shape) → HasWay (ways_of i s) k t → (Has (reached p i) (target p k) × (t ≡ left_by i s)) ⊎ (Has (begun p i) (target p k) × (t ≡ inner i s))
way_reached p s i k t h = elim (way_either (with_shape (left_by i s) (targets i)) (with_shape (inner i s) (inner_targets i)) k t h) [
  | inl a ↦ inl (way_target p (left_by i s) (targets i) k t a)
  | inr b ↦ inr (way_target p (inner i s) (inner_targets i) k t b)
]

-- and a place that is reached has such a way
target_way : (p : ℕ) (s : Shape) (ks : List Target) (q : ℕ) → Has (map (target p) ks) q → (k : Target) × HasWay (with_shape s ks) k s × (q ≡ target p k)
target_way p s [] q h = elim h [ ]
target_way p s (j ∷ ks) q (inl e) = (j, inl (refl, refl), e)
target_way p s (j ∷ ks) q (inr h) = let r = target_way p s ks q h in (r.0, inr r.1, r.2)

pub comes_on : (code : List Instruction) (p : ℕ) (s : Shape) (i : Instruction) (q : ℕ) → Comes code p s → slice_get code p ≡ Some i → Has (reached p i) q → Comes code q (left_by i s)
comes_on code p s i q c is h =
    let w = target_way p (left_by i s) (targets i) q h in
    let P : Option Instruction → Type 0 = λ o. HasWay (ways_at o s) w.0 (left_by i s) in
    record { steps = suc c.steps; comes = (p, s, w.0, c.comes, subst P (sym is) (way_left (with_shape (left_by i s) (targets i)) (with_shape (inner i s) (inner_targets i)) w.0 (left_by i s) w.1), w.2) }

-- and to the body that begins there
pub comes_in : (code : List Instruction) (p : ℕ) (s : Shape) (i : Instruction) (q : ℕ) → Comes code p s → slice_get code p ≡ Some i → Has (begun p i) q → Comes code q (inner i s)
comes_in code p s i q c is h =
    let w = target_way p (inner i s) (inner_targets i) q h in
    let P : Option Instruction → Type 0 = λ o. HasWay (ways_at o s) w.0 (inner i s) in
    record { steps = suc c.steps; comes = (p, s, w.0, c.comes, subst P (sym is) (way_right (with_shape (left_by i s) (targets i)) (with_shape (inner i s) (inner_targets i)) w.0 (inner i s) w.1), w.2) }

-- ---- fine places

pub fine_is : (code : List Instruction) (p : ℕ) (s : Shape) (o : Option Instruction) → slice_get code p ≡ o → FineOrEnd code p s o → FineOrEnd code p s (slice_get code p)
fine_is code p s o e h = let P : Option Instruction → Type 0 = λ x. FineOrEnd code p s x in subst P (sym e) h

pub is_fine : (code : List Instruction) (p : ℕ) (s : Shape) (o : Option Instruction) → slice_get code p ≡ o → FineOrEnd code p s (slice_get code p) → FineOrEnd code p s o
is_fine code p s o e h = let P : Option Instruction → Type 0 = λ x. FineOrEnd code p s x in subst P e h

fine_by : (code : List Instruction) (p : ℕ) (s : Shape) (i : Instruction) → IsFine i s → StaysInside p (length code) i → FineOrEnd code p s (Some i)
fine_by code p s i f h = (f, each_both (λ k t. IsInside p (length code) k) (with_shape (left_by i s) (targets i)) (with_shape (inner i s) (inner_targets i)) (each_way (IsInside p (length code)) (left_by i s) (targets i) h.0) (each_way (IsInside p (length code)) (inner i s) (inner_targets i) h.1))

inside_by : (code : List Instruction) (p : ℕ) (s : Shape) (i : Instruction) → FineOrEnd code p s (Some i) → StaysInside p (length code) i
inside_by code p s i h = (
  each_target (IsInside p (length code)) (left_by i s) (targets i) (each_left (λ k t. IsInside p (length code) k) (with_shape (left_by i s) (targets i)) (with_shape (inner i s) (inner_targets i)) h.1),
  each_target (IsInside p (length code)) (inner i s) (inner_targets i) (each_right (λ k t. IsInside p (length code) k) (with_shape (left_by i s) (targets i)) (with_shape (inner i s) (inner_targets i)) h.1),
)

-- ---- nothing stands there

pub nothing_there : (code : List Instruction) (shapes : Shapes) (pending : List ℕ) (place : ℕ) → shape_at shapes place ≡ None → Sound code shapes → Closed code shapes (pending ++ place ∷ []) → Sound code shapes × Closed code shapes pending
nothing_there code shapes pending place none sound closed = (
  sound,
  record {
    settled = λ p s k. elim (closed.settled p s k) [
      | inl w ↦ elim (has_either pending (place ∷ []) p w) [
        | inl i ↦ inl i
        | inr j ↦ elim j [ inl e ↦ absurd (let f : shape_at shapes p ≡ None = ap (shape_at shapes) e ∙ none in cc) | inr n ↦ elim n [ ] ]
      ]
      | inr t ↦ inr t
    ];
  },
)

-- ---- something stands there, and what it leads to was noted

still_followed : (o : Option Instruction) (shapes new : Shapes) (p : ℕ) (t : Shape) → ((q : ℕ) (u : Shape) → shape_at shapes q ≡ Some u → shape_at new q ≡ Some u) → Followed o shapes p t → Followed o new p t
still_followed None shapes new p t kept f = tt
still_followed (Some i) shapes new p t kept f = (λ q h. kept q (left_by i t) (f.0 q h), λ q h. kept q (inner i t) (f.1 q h))

module _ (code : List Instruction) (shapes : Shapes) (pending : List ℕ) (place : ℕ) (s : Shape) (at : shape_at shapes place ≡ Some s) (sound : Sound code shapes) where
  pub not_fine : (FineOrEnd code place s (slice_get code place) → ⊥) → Valid code → ⊥
  not_fine n v = n (v.fine place s (sound.comes place s at))

  pub settled_here : (new : Shapes) (new_pending : List ℕ) → Closed code shapes (pending ++ place ∷ []) → ((q : ℕ) (u : Shape) → shape_at shapes q ≡ Some u → shape_at new q ≡ Some u) → ((p : ℕ) → Has pending p → Has new_pending p) → ((p : ℕ) (t : Shape) → shape_at new p ≡ Some t → (shape_at shapes p ≡ Some t) ⊎ Has new_pending p) → Settled code new place s → Closed code new new_pending
  settled_here new new_pending closed kept waits only here = record {
    settled = λ p t k. elim (only p t k) [
      | inl old ↦ elim (closed.settled p t old) [
        | inl w ↦ elim (has_either pending (place ∷ []) p w) [
          | inl i ↦ inl (waits p i)
          | inr j ↦ elim j [
            | inl e ↦ inr (
                let same : Some t ≡ Some s = sym old ∙ ap (shape_at shapes) e ∙ at in
                let st : s ≡ t = cc in
                let P : ℕ → Type 0 = λ x. Settled code new x t in
                let Q : Shape → Type 0 = λ x. Settled code new place x in
                subst P (sym e) (subst Q st here))
            | inr z ↦ elim z [ ]
          ]
        ]
        | inr d ↦ inr (record { fine = d.fine; there = still_followed (slice_get code p) shapes new p t kept d.there })
      ]
      | inr j ↦ inl j
    ];
  }

  module _ (i : Instruction) (is : slice_get code place ≡ Some i) where
    sound_on : (mid : Shapes) (mid_pending : List ℕ) (fits : Bool) → Noted fits (reached place i) (left_by i s) shapes pending mid mid_pending → Sound code mid
    sound_on mid mid_pending fits n = record {
      comes = λ p t k. elim (n.only p t k) [
        | inl old ↦ sound.comes p t old
        | inr j ↦ let P : Shape → Type 0 = λ x. Comes code p x in subst P (sym j.1) (comes_on code place s i p (sound.comes place s at) is j.0)
      ];
    }

    clash_on : (mid : Shapes) (mid_pending : List ℕ) → Noted false (reached place i) (left_by i s) shapes pending mid mid_pending → Valid code → ⊥
    clash_on mid mid_pending n v =
        let k = n.clash refl in
        k.4 (v.agree k.0 k.1 (left_by i s) ((sound_on mid mid_pending false n).comes k.0 k.1 k.3) (comes_on code place s i k.0 (sound.comes place s at) is k.2))

    module _ (mid new : Shapes) (mid_pending new_pending : List ℕ) (first : Noted true (reached place i) (left_by i s) shapes pending mid mid_pending) where
      sound_in : (fits : Bool) → Noted fits (begun place i) (inner i s) mid mid_pending new new_pending → Sound code new
      sound_in fits n = record {
        comes = λ p t k. elim (n.only p t k) [
          | inl old ↦ (sound_on mid mid_pending true first).comes p t old
          | inr j ↦ let P : Shape → Type 0 = λ x. Comes code p x in subst P (sym j.1) (comes_in code place s i p (sound.comes place s at) is j.0)
        ];
      }

      closed_in : Closed code shapes (pending ++ place ∷ []) → IsFine i s → StaysInside place (length code) i → Noted true (begun place i) (inner i s) mid mid_pending new new_pending → Closed code new new_pending
      closed_in closed fine inside n =
          let P : Option Instruction → Type 0 = λ o. Followed o new place s in
          settled_here new new_pending closed (λ q u k. n.kept q u (first.kept q u k)) (λ p k. n.waits p (first.waits p k))
          (λ p t k. elim (n.only p t k) [ inl old ↦ elim (first.only p t old) [ inl older ↦ inl older | inr j ↦ inr (n.waits p j.2) ] | inr j ↦ inr j.2 ])
          (record { fine = fine_is code place s (Some i) is (fine_by code place s i fine inside); there = subst P (sym is) (λ q h. n.kept q (left_by i s) (first.there refl q h), n.there refl) })

      clash_in : Noted false (begun place i) (inner i s) mid mid_pending new new_pending → Valid code → ⊥
      clash_in n v =
          let k = n.clash refl in
          k.4 (v.agree k.0 k.1 (inner i s) ((sound_in false n).comes k.0 k.1 k.3) (comes_in code place s i k.0 (sound.comes place s at) is k.2))

-- ---- what the function that looks at a place answers

module _ (code : List Instruction) (shapes : Shapes) (pending : List ℕ) (place : ℕ) (s : Shape) (i : Instruction) (at : shape_at shapes place ≡ Some s) (sound : Sound code shapes) (is : slice_get code place ≡ Some i) (ps : List ℕ) (left : Shape) (mid : Shapes) (mid_pending : List ℕ) (e : ps ≡ reached place i) (f : left ≡ left_by i s) where
  first_noted : (fits : Bool) → Noted fits ps left shapes pending mid mid_pending → Noted fits (reached place i) (left_by i s) shapes pending mid mid_pending
  first_noted fits n =
      let R : List ℕ → Type 0 = λ x. Noted fits x left shapes pending mid mid_pending in
      let Q : Shape → Type 0 = λ x. Noted fits (reached place i) x shapes pending mid mid_pending in
      subst Q f (subst R e n)

  pub after_clash : (fits : Bool) → fits ≡ false → Noted fits ps left shapes pending mid mid_pending → Valid code → ⊥
  after_clash fits t n =
      let P : Bool → Type 0 = λ x. Noted x (reached place i) (left_by i s) shapes pending mid mid_pending in
      clash_on code shapes pending place s at sound i is mid mid_pending (subst P t (first_noted fits n))

  pub after_noted : (first fits : Bool) (qs : List ℕ) (owned : Shape) (new : Shapes) (new_pending : List ℕ) → Closed code shapes (pending ++ place ∷ []) → IsFine i s → StaysInside place (length code) i → first ≡ true → Noted first ps left shapes pending mid mid_pending → qs ≡ begun place i → owned ≡ inner i s → Noted fits qs owned mid mid_pending new new_pending
      → (fits ≡ true → Sound code new × Closed code new new_pending) × (fits ≡ false → Valid code → ⊥)
  after_noted first fits qs owned new new_pending closed fine inside u n g h m =
      let F : Bool → Type 0 = λ x. Noted x (reached place i) (left_by i s) shapes pending mid mid_pending in
      let one = subst F u (first_noted first n) in
      let R : List ℕ → Type 0 = λ x. Noted fits x owned mid mid_pending new new_pending in
      let Q : Shape → Type 0 = λ x. Noted fits (begun place i) x mid mid_pending new new_pending in
      let two = subst Q h (subst R g m) in
      let P : Bool → Type 0 = λ x. Noted x (begun place i) (inner i s) mid mid_pending new new_pending in (
        λ t. (sound_in code shapes pending place s at sound i is mid new mid_pending new_pending one fits two, closed_in code shapes pending place s at sound i is mid new mid_pending new_pending one closed fine inside (subst P t two)),
        λ t. clash_in code shapes pending place s at sound i is mid new mid_pending new_pending one (subst P t two),
      )

pub after_end : (code : List Instruction) (shapes : Shapes) (pending : List ℕ) (place : ℕ) (s : Shape) (r : Bool) → shape_at shapes place ≡ Some s → Sound code shapes → Closed code shapes (pending ++ place ∷ []) → slice_get code place ≡ None → (IsTrue r ↔ ((place ≡ length code) × (s ≡ bare))) → (r ≡ true → Sound code shapes × Closed code shapes pending) × (r ≡ false → Valid code → ⊥)
after_end code shapes pending place s r at sound closed is h =
    let P : Option Instruction → Type 0 = λ o. Followed o shapes place s in (
      λ t. (sound, settled_here code shapes pending place s at sound shapes pending closed (λ q u k. k) (λ p k. k) (λ p u k. inl k) (record { fine = fine_is code place s None is (h.0 t); there = subst P (sym is) tt })),
      λ t v. not_fine code shapes pending place s at sound (λ k. let u : r ≡ true = h.1 (is_fine code place s None is k) in absurd (cc)) v,
    )

pub after_not_suited : (code : List Instruction) (shapes : Shapes) (place : ℕ) (s : Shape) (i : Instruction) (r : Bool) → shape_at shapes place ≡ Some s → Sound code shapes → slice_get code place ≡ Some i → (IsTrue r ↔ IsFine i s) → r ≡ false → Valid code → ⊥
after_not_suited code shapes place s i r at sound is h e v = not_fine code shapes [] place s at sound (λ k. let u : r ≡ true = h.1 ((is_fine code place s (Some i) is k).0) in absurd (cc)) v

pub after_outside : (code : List Instruction) (shapes : Shapes) (place : ℕ) (s : Shape) (i : Instruction) (r : Bool) → shape_at shapes place ≡ Some s → Sound code shapes → slice_get code place ≡ Some i → (IsTrue r ↔ StaysInside place (length code) i) → r ≡ false → Valid code → ⊥
after_outside code shapes place s i r at sound is h e v = not_fine code shapes [] place s at sound (λ k. let u : r ≡ true = h.1 (inside_by code place s i (is_fine code place s (Some i) is k)) in absurd (cc)) v
