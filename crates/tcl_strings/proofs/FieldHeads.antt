-- A field that stands in a text is read.
use Rattle.std.proofs.Common.{◌≡◌, ℕ, ◌==◌, Bool, true, false, ◌||◌, [], ◌∷◌, ◌++◌, Option, Some, None, append_assoc, sym, ap, ◌∙◌, subst, refl, arith, inl, inr}
use Rattle.std.proofs.lemmas.Bool.{cases_Bool, ne_eqb}
use Rattle.tcl_chars.specs.Characters.{number_sign, space, star}
use Rattle.tcl_pages.specs.Formats.{no_field, ends, converted, conversion_of, conversion_next, next_of}
use Rattle.tcl_pages.specs.Strings.{is_among}
use Rattle.tcl_pages.specs.StringClasses.{is_digit}
use Rattle.tcl_pages.specs.Texts.{Text}
use Rattle.tcl_pages.specs.declared.formats.Conversion.{Conversion}
use Rattle.tcl_pages.specs.declared.formats.Conversion.TheVariants as conversion
use Rattle.tcl_pages.specs.declared.formats.Field.{Field}
use Rattle.tcl_pages.specs.declared.formats.FormatPart.TheVariants as part
use Rattle.tcl_pages.specs.declared.formats.FormatStage.{FormatStage}
use Rattle.tcl_pages.specs.declared.formats.FormatStage.TheVariants as stage
use Rattle.tcl_pages.specs.declared.formats.Size.TheVariants as size
use Rattle.tcl_strings.specs.FieldGrammar.{minus, plus, zero_digit, dot, letter_l, IsFlags, IsHead, IsField}
use Rattle.tcl_strings.specs.FieldLaws.{directive}
use Rattle.tcl_strings.proofs.FieldSteps.{Goes, goes_then, flagged, flags_go, width_go, precision_go, InField, modifier_go, no_digit_is, step_read}
use Rattle.std.proofs.Math.Bool.{or-false}

-- ---- a head

-- with these flags and nothing else
abbrev bare : Field → Field
bare g = record g { width = size.Given 0; precision = None; conversion = conversion.Percent }

same_flags : (t : Text) (g : Field) → IsFlags t g → flagged no_field t ≡ bare g
same_flags t g h =
    rw (h.1, h.2, h.3, h.4, h.5, or-false (is_among t minus), or-false (is_among t plus), or-false (is_among t space), or-false (is_among t zero_digit), or-false (is_among t number_sign)) refl

flags_read : (t : Text) (g : Field) → IsFlags t g → Goes stage.Flags no_field t stage.Flags (bare g)
flags_read t g h = subst (λ f. Goes stage.Flags no_field t stage.Flags f) (same_flags t g h) (flags_go no_field t h.0)

pub head_go : (t : Text) (g : Field) → IsHead t g → (u : FormatStage) × InField u × Goes stage.Flags no_field t u (record g { conversion = conversion.Percent })
head_go t g h =
    let w = width_go (bare g) h.width g.width h.is_width in
    let p = precision_go w.0 (record g { conversion = conversion.Percent }) h.precision g.precision w.1 h.is_precision in
    let m = modifier_go p.0 (record g { conversion = conversion.Percent }) h.modifier p.1 h.is_modifier in
    let sized : Field = record g { precision = None; conversion = conversion.Percent } in
    let whole : Field = record g { conversion = conversion.Percent } in
    let behind_width : Goes w.0 sized (h.precision ++ h.modifier) m.0 whole = goes_then w.0 p.0 m.0 sized whole whole h.precision h.modifier p.2 m.2 in
    let behind_flags : Goes stage.Flags (bare g) (h.width ++ (h.precision ++ h.modifier)) m.0 whole = goes_then stage.Flags w.0 m.0 (bare g) sized whole h.width (h.precision ++ h.modifier) w.2 behind_width in
    let all : Goes stage.Flags no_field (h.flags ++ (h.width ++ (h.precision ++ h.modifier))) m.0 whole =
    goes_then stage.Flags stage.Flags m.0 no_field (bare g) whole h.flags (h.width ++ (h.precision ++ h.modifier)) (flags_read h.flags g h.are_flags) behind_flags in
    (m.0, m.1, subst (λ s. Goes stage.Flags no_field s m.0 whole) (sym h.in_order) all)

-- ---- a letter

same_letter : (c n : ℕ) (k : Conversion) → conversion_of c ≡ Some k → conversion_of n ≡ None → c ≡ n → ⊥
same_letter c n k h e s = both (conversion_of c) h (ap conversion_of s ∙ e)
  where
    both : (o : Option Conversion) → o ≡ Some k → o ≡ None → ⊥
    both o p q = cc

no_letter_is : (c n : ℕ) (k : Conversion) → conversion_of c ≡ Some k → conversion_of n ≡ None → (c == n) ≡ false
no_letter_is c n k h e = ne_eqb c n (same_letter c n k h e)

digit_is_none : (c : ℕ) → is_digit c ≡ true → conversion_of c ≡ None
digit_is_none c h =
    rw (
      no_digit_is c 100 h (inr (omega arith)),
      no_digit_is c 105 h (inr (omega arith)),
      no_digit_is c 117 h (inr (omega arith)),
      no_digit_is c 120 h (inr (omega arith)),
      no_digit_is c 88 h (inr (omega arith)),
      no_digit_is c 111 h (inr (omega arith)),
      no_digit_is c 98 h (inr (omega arith)),
      no_digit_is c 99 h (inr (omega arith)),
      no_digit_is c 115 h (inr (omega arith)),
      no_digit_is c 37 h (inl (omega arith)),
    ) refl

letter_is_no_digit : (c : ℕ) (k : Conversion) → conversion_of c ≡ Some k → is_digit c ≡ false
letter_is_no_digit c k h = elim (cases_Bool (is_digit c)) [
  | inl d ↦ absurd (both (conversion_of c) h (digit_is_none c d))
  | inr n ↦ n
]
  where
    both : (o : Option Conversion) → o ≡ Some k → o ≡ None → ⊥
    both o p q = cc

letter_step : (s : FormatStage) (f : Field) (c : ℕ) (k : Conversion) → InField s → conversion_of c ≡ Some k → next_of s f c ≡ conversion_next f c
letter_step stage.Plain f c k i h = absurd i
letter_step stage.Flags f c k i h =
    rw (
      no_letter_is c minus k h refl,
      no_letter_is c plus k h refl,
      no_letter_is c space k h refl,
      no_letter_is c zero_digit k h refl,
      no_letter_is c number_sign k h refl,
      no_letter_is c star k h refl,
      letter_is_no_digit c k h,
      no_letter_is c dot k h refl,
      no_letter_is c letter_l k h refl,
    ) refl
letter_step stage.Width f c k i h = rw (letter_is_no_digit c k h, no_letter_is c dot k h refl, no_letter_is c letter_l k h refl) refl
letter_step stage.BehindWidth f c k i h = rw (no_letter_is c dot k h refl, no_letter_is c letter_l k h refl) refl
letter_step stage.Precision f c k i h = rw (no_letter_is c star k h refl, letter_is_no_digit c k h, no_letter_is c letter_l k h refl) refl
letter_step stage.PrecisionDigits f c k i h = rw (letter_is_no_digit c k h, no_letter_is c letter_l k h refl) refl
letter_step stage.BehindPrecision f c k i h = rw (no_letter_is c letter_l k h refl) refl
letter_step stage.BehindL f c k i h = rw (no_letter_is c letter_l k h refl) refl
letter_step stage.BehindLl f c k i h = refl

pub field_read : (d rest : Text) (f : Field) → IsField d f → directive (d ++ rest) ≡ record { part = Some (part.Field f, rest); field = record f { conversion = conversion.Percent } }
field_read d rest f h =
    let r = head_go h.head f h.is_head in
    let before : Field = record f { conversion = conversion.Percent } in
    let step : next_of r.0 before h.letter ≡ ends (part.Field f) = letter_step r.0 before h.letter f.conversion r.1 h.is_letter ∙ ap (converted before h.letter) h.is_letter in
    ap (λ t. directive (t ++ rest)) h.in_order ∙ ap directive (append_assoc h.head (h.letter ∷ []) rest) ∙ r.2 (h.letter ∷ rest) ∙ step_read before (next_of r.0 before h.letter) (ends (part.Field f)) rest step
