-- Texts that stand one behind the other.
use Rattle.std.proofs.Common.{◌≡◌, ℕ, zero, suc, ◌≤◌, List, [], ◌∷◌, ◌++◌, length, Some, refl, sym, ap, ◌∙◌, subst, arith, take, drop, get_or, length-append, inl, inr, ◌-◌}
use Rattle.std.specs.Prelude.{slice_get, slice_range, option_map, OnErr, Result, Ok, Err}
use Rattle.std.specs.Str.{chars, IsUtf8, IsCharBoundary}
use Rattle.std.proofs.lemmas.Str.{IsCharBoundary-at_seam, IsCharBoundary-end}
use Rattle.std.proofs.lemmas.List.{get_or_append_left, length-drop, take_all, take-append-le, drop-append-le, map-append}
use Rattle.std.proofs.Math.Seq.{drop-append_seam}
use Rattle.std.proofs.Math.Nat.{eq-or-lt_of_le}
use Rattle.std.proofs.lemmas.Option.{slice_get-map}
use Rattle.tcl_pages.specs.Texts.{Text}
use Rattle.tcl_code.specs.declared.rare.Stretch.{Stretch}
use Rattle.tcl_code.specs.Rare.{cut, IsCut, AllCut}

-- ---- a stretch more

all_joined : (bs : List ℕ) (ss : List Stretch) (s : Stretch) → AllCut bs ss → IsCut bs s → AllCut bs (ss ++ s ∷ [])
all_joined bs [] s h k = (k, tt)
all_joined bs (r ∷ ss) s h k = (h.0, all_joined bs ss s h.1 k)

pub inside_cut : (bs : List ℕ) (ss ts : List Stretch) (s : Stretch) → AllCut bs ss → ts ≡ ss ++ s ∷ [] → IsCut bs s → AllCut bs ts
inside_cut bs ss ts s h f k = subst (AllCut bs) (sym f) (all_joined bs ss s h k)

-- ---- text that comes behind

module _ (old more new : List ℕ) (e : new ≡ old ++ more) (u : IsUtf8 more) where
  longer : length old ≤ length new
  longer = let a = ap length e ∙ length-append old more in omega (arith, a)

  -- a place between two characters stays one
  still_between : (i : ℕ) → IsCharBoundary old i → IsCharBoundary new i
  still_between i b = elim (eq-or-lt_of_le b.0) [
    | inl at ↦ subst (IsCharBoundary new) (sym at) (IsCharBoundary-at_seam new old more e u)
    | inr below ↦ (
      let l = longer in omega (arith, l, b.0),
      λ inside high. let same : get_or new i 0 ≡ get_or old i 0 = ap (λ x. get_or x i 0) e ∙ get_or_append_left old more 0 i below in
          let was = b.1 below (subst (λ x. 128 ≤ x) same high) in subst (λ x. 192 ≤ x) (sym same) was,
    )
  ]

  -- and a stretch keeps its text
  same_range : (a b : ℕ) → a ≤ b → b ≤ length old → slice_range new a b ≡ slice_range old a b
  same_range a b le in_old =
      let long = length-drop a old in
      ap (λ x. slice_range x a b) e ∙ ap (take (b - a)) (drop-append-le a old more (omega (arith, le, in_old))) ∙ take-append-le (b - a) (drop a old) more (omega (arith, long, le, in_old))

  pub still_cut : (ss : List Stretch) → AllCut old ss → AllCut new ss
  still_cut [] h = tt
  still_cut (s ∷ ss) h = ((h.0.0, still_between s.start h.0.1, still_between s.end h.0.2), still_cut ss h.1)

  pub same_cut : (ss : List Stretch) → AllCut old ss → cut new ss ≡ cut old ss
  same_cut [] h = refl
  same_cut (s ∷ ss) h = ap (λ x. chars x ∷ cut new ss) (same_range s.start s.end h.0.0 h.0.2.0) ∙ ap (λ x. chars (slice_range old s.start s.end) ∷ x) (same_cut ss h.1)

  last_range : slice_range new (length old) (length new) ≡ more
  last_range =
      let a = ap length e ∙ length-append old more in
      ap (λ x. take (length new - length old) (drop (length old) x)) e ∙ ap (take (length new - length old)) (drop-append_seam old more) ∙ take_all (length new - length old) more (omega (arith, a))

  pub cut_more : (ss : List Stretch) (s : Stretch) → s.start ≡ length old → s.end ≡ length new → AllCut old ss → cut new (ss ++ s ∷ []) ≡ cut old ss ++ chars more ∷ []
  cut_more ss s b f h =
      map-append (λ r. chars (slice_range new r.start r.end)) ss (s ∷ [])
      ∙ ap (λ x. x ++ chars (slice_range new s.start s.end) ∷ []) (same_cut ss h)
      ∙ ap (λ x. cut old ss ++ chars (slice_range new x s.end) ∷ []) b ∙ ap (λ x. cut old ss ++ chars (slice_range new (length old) x) ∷ []) f
      ∙ ap (λ x. cut old ss ++ chars x ∷ []) last_range

  pub all_cut_more : (ss : List Stretch) (s : Stretch) → s.start ≡ length old → s.end ≡ length new → AllCut old ss → AllCut new (ss ++ s ∷ [])
  all_cut_more ss s b f h =
      let l = longer in
      let start : IsCharBoundary new s.start = subst (IsCharBoundary new) (sym b) (still_between (length old) (IsCharBoundary-end old)) in
      let end : IsCharBoundary new s.end = subst (IsCharBoundary new) (sym f) (IsCharBoundary-end new) in
      all_joined new ss s (still_cut ss h) (omega (arith, b, f, l), start, end)

-- ---- the text of a number

pub cut_at : (bs : List ℕ) (ss : List Stretch) (n : ℕ) (s : Stretch) → slice_get ss n ≡ Some s → AllCut bs ss → IsCut bs s
cut_at bs [] n s e h = absurd (cc)
cut_at bs (r ∷ ss) zero s e h = let f : r ≡ s = cc in subst (IsCut bs) f h.0
cut_at bs (r ∷ ss) (suc n) s e h = cut_at bs ss n s e h.1

module _ (bs : List ℕ) (ss items : List Stretch) (n : ℕ) (s : Stretch) (found : Some s ≡ slice_get items n) (same : items ≡ ss) (h : AllCut bs ss) (text : List ℕ) (is : text ≡ bs) where
  there : slice_get ss n ≡ Some s
  there = ap (λ x. slice_get x n) (sym same) ∙ sym found

  here : IsCut bs s
  here = cut_at bs ss n s there h

  pub in_order : s.start ≤ s.end
  in_order = here.0

  pub starts : IsCharBoundary text s.start
  starts = subst (λ t. IsCharBoundary t s.start) (sym is) here.1

  pub ends : IsCharBoundary text s.end
  ends = subst (λ t. IsCharBoundary t s.end) (sym is) here.2

  pub got : (part : List ℕ) (view : List Text) → cut bs ss ≡ view → part ≡ slice_range text s.start s.end → Some (chars part) ≡ slice_get view n
  got part view v e =
      let f : Stretch → Text = λ r. chars (slice_range bs r.start r.end) in
      ap (λ x. Some (chars x)) (e ∙ ap (λ x. slice_range x s.start s.end) is) ∙ sym (ap (option_map f) there) ∙ sym (slice_get-map f ss n) ∙ ap (λ x. slice_get x n) v

-- ---- a text behind the others

pub whatever_err : {A E : Type 0} (r : Result A E) (P : Type 0) → P → OnErr r P
whatever_err (Ok a) P h = tt
whatever_err (Err e) P h = h

module _ (old more new : List ℕ) (ss : List Stretch) (view : List Text) (v : cut old ss ≡ view) (h : AllCut old ss) (e : new ≡ old ++ more) (u : IsUtf8 more) where
  pub kept_view : (ts : List Stretch) → ts ≡ ss → cut new ts ≡ view
  kept_view ts f = ap (cut new) f ∙ same_cut old more new e u ss h ∙ v

  pub kept_cut : (ts : List Stretch) → ts ≡ ss → AllCut new ts
  kept_cut ts f = subst (AllCut new) (sym f) (still_cut old more new e u ss h)

  pub more_view : (ts : List Stretch) (s : Stretch) → ts ≡ ss ++ s ∷ [] → s.start ≡ length old → s.end ≡ length new → cut new ts ≡ view ++ chars more ∷ []
  more_view ts s f b c = ap (cut new) f ∙ cut_more old more new e u ss s b c h ∙ ap (λ x. x ++ chars more ∷ []) v

  pub more_cut : (ts : List Stretch) (s : Stretch) → ts ≡ ss ++ s ∷ [] → s.start ≡ length old → s.end ≡ length new → AllCut new ts
  more_cut ts s f b c = subst (AllCut new) (sym f) (all_cut_more old more new e u ss s b c h)
