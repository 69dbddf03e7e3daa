-- What the search reads of a code, over items whose texts it doesn't look at.
use Rattle.std.proofs.Common.{◌≡◌, ℕ, ◌≤◌, ◌<◌, List, [], ◌∷◌, ◌++◌, length, Some, None, Bool, true, false, refl, sym, ap, ◌∙◌, subst, get_or, IsTrue, ◌↔◌}
use Rattle.std.specs.Prelude.{slice_get, option_map}
use Rattle.std.proofs.lemmas.List.{length-map}
use Rattle.std.proofs.lemmas.Option.{slice_get-map, slice_get_read, slice_get_past}
use Rattle.tcl_code.specs.Instructions.{Instruction}
use Rattle.tcl_code.specs.declared.instr.Instr.{Instr}
use Rattle.tcl_code.specs.declared.shape.Shape.{Shape}
use Rattle.tcl_code.specs.Shown.{no_texts, shown, instructions}
use Rattle.tcl_code.specs.Valid.{IsFine, Valid, left_by, inner, bare}
use Rattle.tcl_code.specs.Search.{StaysInside, reached, begun, Shapes, shape_at, Noted, Sound, Closed}
use Rattle.tcl_code.proofs.Settling.{after_clash, after_noted, after_end, after_not_suited, after_outside}

abbrev blank : List Instr → List Instruction
blank code = instructions no_texts code

read_item : (code : List Instr) (p : ℕ) (i : Instr) → p < length code → i ≡ get_or code p i → slice_get (blank code) p ≡ Some (shown no_texts i)
read_item code p i l e = slice_get-map (shown no_texts) code p ∙ ap (option_map (shown no_texts)) (slice_get_read code (length code) p i refl l e)

read_past : (code : List Instr) (p : ℕ) → length code ≤ p → slice_get (blank code) p ≡ None
read_past code p l = slice_get-map (shown no_texts) code p ∙ ap (option_map (shown no_texts)) (slice_get_past code p l)

as_long : (code : List Instr) → length code ≡ length (blank code)
as_long code = sym (length-map code (shown no_texts))

module _ (code : List Instr) (shapes : Shapes) (pending : List ℕ) (place : ℕ) (s : Shape) (at : shape_at shapes place ≡ Some s) (sound : Sound (blank code) shapes) (closed : Closed (blank code) shapes (pending ++ place ∷ [])) where
  pub at_end : (r : Bool) → length code ≤ place → (IsTrue r ↔ ((place ≡ length code) × (s ≡ bare))) → (r ≡ true → Sound (blank code) shapes × Closed (blank code) shapes pending) × (r ≡ false → Valid (blank code) → ⊥)
  at_end r l h =
      let P : ℕ → Type 0 = λ n. IsTrue r ↔ ((place ≡ n) × (s ≡ bare)) in
      after_end (blank code) shapes pending place s r at sound closed (read_past code place l) (subst P (as_long code) h)

  module _ (i : Instr) (l : place < length code) (is : i ≡ get_or code place i) where
    pub not_suited : (r : Bool) → (IsTrue r ↔ IsFine (shown no_texts i) s) → r ≡ false → Valid (blank code) → ⊥
    not_suited r h e v = after_not_suited (blank code) shapes place s (shown no_texts i) r at sound (read_item code place i l is) h e v

    pub outside : (r : Bool) → (IsTrue r ↔ StaysInside place (length code) (shown no_texts i)) → r ≡ false → Valid (blank code) → ⊥
    outside r h e v =
        let P : ℕ → Type 0 = λ n. IsTrue r ↔ StaysInside place n (shown no_texts i) in
        after_outside (blank code) shapes place s (shown no_texts i) r at sound (read_item code place i l is) (subst P (as_long code) h) e v

    pub clash : (ps : List ℕ) (left : Shape) (mid : Shapes) (mid_pending : List ℕ) (fits : Bool) → fits ≡ false → ps ≡ reached place (shown no_texts i) → left ≡ left_by (shown no_texts i) s → Noted fits ps left shapes pending mid mid_pending → Valid (blank code) → ⊥
    clash ps left mid mid_pending fits t e f n v = after_clash (blank code) shapes pending place s (shown no_texts i) at sound (read_item code place i l is) ps left mid mid_pending e f fits t n v

    pub noted : (ps : List ℕ) (left : Shape) (mid : Shapes) (mid_pending : List ℕ) (first fits : Bool) (qs : List ℕ) (owned : Shape) (new : Shapes) (new_pending : List ℕ) → IsFine (shown no_texts i) s → StaysInside place (length code) (shown no_texts i) → ps ≡ reached place (shown no_texts i) → left ≡ left_by (shown no_texts i) s → first ≡ true → Noted first ps left shapes pending mid mid_pending
        → qs ≡ begun place (shown no_texts i) → owned ≡ inner (shown no_texts i) s → Noted fits qs owned mid mid_pending new new_pending → (fits ≡ true → Sound (blank code) new × Closed (blank code) new new_pending) × (fits ≡ false → Valid (blank code) → ⊥)
    noted ps left mid mid_pending first fits qs owned new new_pending fine inside e f u n g h m =
        let P : ℕ → Type 0 = λ n. StaysInside place n (shown no_texts i) in
        after_noted (blank code) shapes pending place s (shown no_texts i) at sound (read_item code place i l is) ps left mid mid_pending e f first fits qs owned new new_pending closed fine (subst P (as_long code) inside) u n g h m
