-- What has been read of a field is its first parts.
use Rattle.std.proofs.Common.{◌≡◌, ◌≢◌, ℕ, ◌+◌, ◌*◌, ◌==◌, min, Bool, true, false, ◌||◌, [], ◌∷◌, ◌++◌, Some, None, append_assoc, sym, ap, ◌∙◌, subst, refl}
use Rattle.std.proofs.lemmas.Bool.{cond_both, eqb-true, eqb-false}
use Rattle.std.proofs.lemmas.List.{append-nil}
use Rattle.std.specs.Char.{digit_value}
use Rattle.std.specs.Str.Parse.{digits_value_after, digits_value}
use Rattle.tcl_chars.specs.Characters.{number_sign, space, star}
use Rattle.tcl_pages.specs.Formats.{no_field, on_to, digit_of, more_digits, more_precision, conversion_next, modifier_next, second_modifier_next, dot_next, precise_next, precision_next, width_next, more_width, flag_next, next_of}
use Rattle.tcl_pages.specs.Strings.{is_among}
use Rattle.tcl_pages.specs.StringClasses.{is_digit}
use Rattle.tcl_pages.specs.StringLaws.{AllAre}
use Rattle.tcl_pages.specs.Texts.{Text}
use Rattle.tcl_pages.specs.declared.formats.Field.{Field}
use Rattle.tcl_pages.specs.declared.formats.FormatStage.{FormatStage}
use Rattle.tcl_pages.specs.declared.formats.FormatStage.TheVariants as stage
use Rattle.tcl_pages.specs.declared.formats.FormatStep.{FormatStep}
use Rattle.tcl_pages.specs.declared.formats.Size.TheVariants as size
use Rattle.tcl_strings.specs.FieldGrammar.{minus, plus, zero_digit, dot, letter_l, is_flag, IsFlags, size_of, IsWidth, IsPrecision, IsModifier, IsHead}
use Rattle.tcl_strings.specs.FieldGrammar as grammar
use Rattle.tcl_strings.proofs.FieldSteps.{value_again, first_value}

-- ---- the first parts of a field

pub record Flagged (t : Text) (f : Field) : Type 0 where
  are_flags : IsFlags t f
  no_width : f.width ≡ size.Given 0
  no_precision : f.precision ≡ None

-- in the digits of a width
pub record Widening (t : Text) (f : Field) : Type 0 where
  flags : Text
  digit : ℕ
  digits : Text
  in_order : t ≡ flags ++ digit ∷ digits
  are_flags : IsFlags flags f
  no_flag : digit ≢ zero_digit
  are_digits : AllAre is_digit (digit ∷ digits)
  is_width : f.width ≡ size_of (digit ∷ digits)
  no_precision : f.precision ≡ None

pub record Sized (t : Text) (f : Field) : Type 0 where
  flags : Text
  width : Text
  in_order : t ≡ flags ++ width
  are_flags : IsFlags flags f
  is_width : IsWidth width f.width
  no_precision : f.precision ≡ None

-- in the digits of a precision
pub record Dotted (t digits : Text) (f : Field) : Type 0 where
  flags : Text
  width : Text
  in_order : t ≡ flags ++ (width ++ dot ∷ digits)
  are_flags : IsFlags flags f
  is_width : IsWidth width f.width
  are_digits : AllAre is_digit digits
  is_precision : f.precision ≡ Some (size_of digits)

pub record Precise (t : Text) (f : Field) : Type 0 where
  flags : Text
  width : Text
  precision : Text
  in_order : t ≡ flags ++ (width ++ precision)
  are_flags : IsFlags flags f
  is_width : IsWidth width f.width
  is_precision : IsPrecision precision f.precision

pub record Modified (t : Text) (f : Field) : Type 0 where
  front : Text
  in_order : t ≡ front ++ letter_l ∷ []
  precise : Precise front f

-- what stands in front of a stage, with its field
abbrev pub At : FormatStage → Text → Field → Type 0
At stage.Plain t f = ⊥
At stage.Flags t f = Flagged t f
At stage.Width t f = Widening t f
At stage.BehindWidth t f = Sized t f
At stage.Precision t f = Dotted t [] f
At stage.PrecisionDigits t f = (ds : Text) × Dotted t ds f
At stage.BehindPrecision t f = Precise t f
At stage.BehindL t f = Modified t f
At stage.BehindLl t f = IsHead t f

-- ---- later parts may be wanting

sized_of_flags : (t : Text) (f : Field) → Flagged t f → Sized t f
sized_of_flags t f h =
    record { flags = t; width = []; in_order = sym (append-nil t); are_flags = h.are_flags; is_width = subst (λ w. IsWidth [] w) (sym h.no_width) grammar.none; no_precision = h.no_precision }

sized_of_digits : (t : Text) (f : Field) → Widening t f → Sized t f
sized_of_digits t f h =
    record { flags = h.flags; width = h.digit ∷ h.digits; in_order = h.in_order; are_flags = h.are_flags; is_width = subst (λ w. IsWidth (h.digit ∷ h.digits) w) (sym h.is_width) (grammar.number h.digit h.digits h.no_flag h.are_digits); no_precision = h.no_precision }

precise_of_size : (t : Text) (f : Field) → Sized t f → Precise t f
precise_of_size t f h =
    record { flags = h.flags; width = h.width; precision = []; in_order = h.in_order ∙ ap (λ w. h.flags ++ w) (sym (append-nil h.width)); are_flags = h.are_flags; is_width = h.is_width; is_precision = subst (λ p. IsPrecision [] p) (sym h.no_precision) grammar.none }

precise_of_digits : (t ds : Text) (f : Field) → Dotted t ds f → Precise t f
precise_of_digits t ds f h =
    record { flags = h.flags; width = h.width; precision = dot ∷ ds; in_order = h.in_order; are_flags = h.are_flags; is_width = h.is_width; is_precision = subst (λ p. IsPrecision (dot ∷ ds) p) (sym h.is_precision) (grammar.number ds h.are_digits) }

with_modifier : (t m : Text) (f : Field) → Precise t f → IsModifier m → IsHead (t ++ m) f
with_modifier t m f h i =
    record {
      flags = h.flags;
      width = h.width;
      precision = h.precision;
      modifier = m;
      in_order = ap (λ s. s ++ m) h.in_order ∙ append_assoc h.flags (h.width ++ h.precision) m ∙ ap (λ s. h.flags ++ s) (append_assoc h.width h.precision m);
      are_flags = h.are_flags;
      is_width = h.is_width;
      is_precision = h.is_precision;
      is_modifier = i;
    }

head_of_precise : (t : Text) (f : Field) → Precise t f → IsHead t f
head_of_precise t f h = subst (λ s. IsHead s f) (append-nil t) (with_modifier t [] f h grammar.none)

head_of_modified : (t : Text) (f : Field) → Modified t f → IsHead t f
head_of_modified t f h = subst (λ s. IsHead s f) (sym h.in_order) (with_modifier h.front (letter_l ∷ []) f h.precise grammar.one)

pub at_head : (s : FormatStage) (t : Text) (f : Field) → At s t f → IsHead t f
at_head stage.Plain t f h = absurd h
at_head stage.Flags t f h = head_of_precise t f (precise_of_size t f (sized_of_flags t f h))
at_head stage.Width t f h = head_of_precise t f (precise_of_size t f (sized_of_digits t f h))
at_head stage.BehindWidth t f h = head_of_precise t f (precise_of_size t f h)
at_head stage.Precision t f h = head_of_precise t f (precise_of_digits t [] f h)
at_head stage.PrecisionDigits t f h = head_of_precise t f (precise_of_digits t h.0 f h.1)
at_head stage.BehindPrecision t f h = head_of_precise t f h
at_head stage.BehindL t f h = head_of_modified t f h
at_head stage.BehindLl t f h = h

pub at_start : At stage.Flags [] no_field
at_start = record { are_flags = (tt, refl, refl, refl, refl, refl); no_width = refl; no_precision = refl }

-- ---- one character more

-- the character goes on with the field, or must be its letter
pub data Onward (t : Text) (f : Field) (c : ℕ) : FormatStep → Type 0 where
  more : (u : FormatStage) (g : Field) → At u (t ++ c ∷ []) g → Onward t f c (on_to u g)
  last : Onward t f c (conversion_next f c)

all_more : (test : ℕ → Bool) (t : Text) (c : ℕ) → AllAre test t → test c ≡ true → AllAre test (t ++ c ∷ [])
all_more test [] c h e = (e, tt)
all_more test (d ∷ ds) c h e = (h.0, all_more test ds c h.1 e)

value_more : (n : ℕ) (ds : Text) (c : ℕ) → digits_value_after 10 n (ds ++ c ∷ []) ≡ digits_value_after 10 n ds * 10 + digit_value c
value_more n [] c = refl
value_more n (d ∷ ds) c = value_more (n * 10 + digit_value d) ds c

size_more : (ds : Text) (c : ℕ) → is_digit c ≡ true → more_digits (size_of ds) c ≡ size_of (ds ++ c ∷ [])
size_more ds c h = ap size.Given (value_again (digits_value 10 ds) c h ∙ ap (λ n. min n 2147483648) (sym (value_more 0 ds c)))

onward_modifier : (t : Text) (f : Field) (c : ℕ) → Precise t f → Onward t f c (modifier_next f c)
onward_modifier t f c h =
    cond_both (c == letter_l) _ _ (Onward t f c) (λ e. more stage.BehindL f (record { front = t; in_order = ap (λ d. t ++ d ∷ []) (eqb-true c letter_l e); precise = h })) (λ e. last)

onward_second : (t : Text) (f : Field) (c : ℕ) → Modified t f → Onward t f c (second_modifier_next f c)
onward_second t f c h =
    cond_both (c == letter_l) _ _ (Onward t f c)
    (λ e. more stage.BehindLl f (subst (λ s. IsHead s f) (sym (ap (λ d. t ++ d ∷ []) (eqb-true c letter_l e) ∙ ap (λ s. s ++ letter_l ∷ []) h.in_order ∙ append_assoc h.front (letter_l ∷ []) (letter_l ∷ [])))
    (with_modifier h.front (letter_l ∷ letter_l ∷ []) f h.precise grammar.two)))
    (λ e. last)

onward_dot : (t : Text) (f : Field) (c : ℕ) → Sized t f → Onward t f c (dot_next f c)
onward_dot t f c h =
    cond_both (c == dot) _ _ (Onward t f c)
    (λ e. more stage.Precision (record f { precision = Some (size.Given 0) })
    (record { flags = h.flags; width = h.width; in_order = ap (λ d. t ++ d ∷ []) (eqb-true c dot e) ∙ ap (λ s. s ++ dot ∷ []) h.in_order ∙ append_assoc h.flags h.width (dot ∷ []); are_flags = h.are_flags; is_width = h.is_width; are_digits = tt; is_precision = refl }))
    (λ e. onward_modifier t f c (precise_of_size t f h))

onward_precise : (t ds : Text) (f : Field) (c : ℕ) → Dotted t ds f → Onward t f c (precise_next f c)
onward_precise t ds f c h =
    cond_both (is_digit c) _ _ (Onward t f c)
    (λ e. more stage.PrecisionDigits (record f { precision = more_precision f.precision c }) (
      ds ++ c ∷ [],
      record {
        flags = h.flags;
        width = h.width;
        in_order = ap (λ s. s ++ c ∷ []) h.in_order ∙ append_assoc h.flags (h.width ++ dot ∷ ds) (c ∷ []) ∙ ap (λ s. h.flags ++ s) (append_assoc h.width (dot ∷ ds) (c ∷ []));
        are_flags = h.are_flags;
        is_width = h.is_width;
        are_digits = all_more is_digit ds c h.are_digits e;
        is_precision = ap (λ p. more_precision p c) h.is_precision ∙ ap Some (size_more ds c e);
      },
    ))
    (λ e. onward_modifier t f c (precise_of_digits t ds f h))

onward_precision : (t : Text) (f : Field) (c : ℕ) → Dotted t [] f → Onward t f c (precision_next f c)
onward_precision t f c h =
    cond_both (c == star) _ _ (Onward t f c)
    (λ e. more stage.BehindPrecision (record f { precision = Some size.FromArgument })
    (record {
      flags = h.flags;
      width = h.width;
      precision = dot ∷ star ∷ [];
      in_order = ap (λ d. t ++ d ∷ []) (eqb-true c star e) ∙ ap (λ s. s ++ star ∷ []) h.in_order ∙ append_assoc h.flags (h.width ++ dot ∷ []) (star ∷ []) ∙ ap (λ s. h.flags ++ s) (append_assoc h.width (dot ∷ []) (star ∷ []));
      are_flags = h.are_flags;
      is_width = h.is_width;
      is_precision = grammar.argument;
    }))
    (λ e. onward_precise t [] f c h)

onward_more_width : (t : Text) (f : Field) (c : ℕ) → Widening t f → Onward t f c (more_width f c)
onward_more_width t f c h =
    cond_both (is_digit c) _ _ (Onward t f c)
    (λ e. more stage.Width (record f { width = more_digits f.width c })
    (record {
      flags = h.flags;
      digit = h.digit;
      digits = h.digits ++ c ∷ [];
      in_order = ap (λ s. s ++ c ∷ []) h.in_order ∙ append_assoc h.flags (h.digit ∷ h.digits) (c ∷ []);
      are_flags = h.are_flags;
      no_flag = h.no_flag;
      are_digits = all_more is_digit (h.digit ∷ h.digits) c h.are_digits e;
      is_width = ap (λ w. more_digits w c) h.is_width ∙ size_more (h.digit ∷ h.digits) c e;
      no_precision = h.no_precision;
    }))
    (λ e. onward_dot t f c (sized_of_digits t f h))

onward_width : (t : Text) (f : Field) (c : ℕ) → c ≢ zero_digit → Flagged t f → Onward t f c (width_next f c)
onward_width t f c n h =
    cond_both (c == star) _ _ (Onward t f c)
    (λ e. more stage.BehindWidth (record f { width = size.FromArgument })
    (record { flags = t; width = star ∷ []; in_order = ap (λ d. t ++ d ∷ []) (eqb-true c star e); are_flags = h.are_flags; is_width = grammar.argument; no_precision = h.no_precision }))
    (λ _. cond_both (is_digit c) _ _ (Onward t f c)
    (λ e. more stage.Width (record f { width = size.Given (digit_of c) })
    (record { flags = t; digit = c; digits = []; in_order = refl; are_flags = h.are_flags; no_flag = n; are_digits = (e, tt); is_width = ap size.Given (first_value c e); no_precision = h.no_precision }))
    (λ _. onward_dot t f c (sized_of_flags t f h)))

-- ---- one flag more

or_true : (b : Bool) → true ≡ (b || true)
or_true true = refl
or_true false = refl

has_new : (t : Text) (c : ℕ) → (c == c) ≡ true → true ≡ is_among (t ++ c ∷ []) c
has_new [] c e = sym (ap (λ b. b || false) e)
has_new (d ∷ ds) c e = or_true (d == c) ∙ ap (λ b. (d == c) || b) (has_new ds c e)

has_others : (t : Text) (c n : ℕ) → (c == n) ≡ false → is_among t n ≡ is_among (t ++ c ∷ []) n
has_others [] c n e = sym (ap (λ b. b || false) e)
has_others (d ∷ ds) c n e = ap (λ b. (d == n) || b) (has_others ds c n e)

one_minus : (t : Text) (f : Field) → Flagged t f → Flagged (t ++ minus ∷ []) (record f { minus = true })
one_minus t f h =
    record {
      are_flags = (all_more is_flag t minus h.are_flags.0 refl, has_new t minus refl, h.are_flags.2 ∙ has_others t minus plus refl, h.are_flags.3 ∙ has_others t minus space refl, h.are_flags.4 ∙ has_others t minus zero_digit refl, h.are_flags.5 ∙ has_others t minus number_sign refl);
      no_width = h.no_width;
      no_precision = h.no_precision;
    }

one_plus : (t : Text) (f : Field) → Flagged t f → Flagged (t ++ plus ∷ []) (record f { plus = true })
one_plus t f h =
    record {
      are_flags = (all_more is_flag t plus h.are_flags.0 refl, h.are_flags.1 ∙ has_others t plus minus refl, has_new t plus refl, h.are_flags.3 ∙ has_others t plus space refl, h.are_flags.4 ∙ has_others t plus zero_digit refl, h.are_flags.5 ∙ has_others t plus number_sign refl);
      no_width = h.no_width;
      no_precision = h.no_precision;
    }

one_gap : (t : Text) (f : Field) → Flagged t f → Flagged (t ++ space ∷ []) (record f { gap = true })
one_gap t f h =
    record {
      are_flags = (all_more is_flag t space h.are_flags.0 refl, h.are_flags.1 ∙ has_others t space minus refl, h.are_flags.2 ∙ has_others t space plus refl, has_new t space refl, h.are_flags.4 ∙ has_others t space zero_digit refl, h.are_flags.5 ∙ has_others t space number_sign refl);
      no_width = h.no_width;
      no_precision = h.no_precision;
    }

one_zero : (t : Text) (f : Field) → Flagged t f → Flagged (t ++ zero_digit ∷ []) (record f { zeros = true })
one_zero t f h =
    record {
      are_flags = (all_more is_flag t zero_digit h.are_flags.0 refl, h.are_flags.1 ∙ has_others t zero_digit minus refl, h.are_flags.2 ∙ has_others t zero_digit plus refl, h.are_flags.3 ∙ has_others t zero_digit space refl, has_new t zero_digit refl, h.are_flags.5 ∙ has_others t zero_digit number_sign refl);
      no_width = h.no_width;
      no_precision = h.no_precision;
    }

one_hash : (t : Text) (f : Field) → Flagged t f → Flagged (t ++ number_sign ∷ []) (record f { hash = true })
one_hash t f h =
    record {
      are_flags = (all_more is_flag t number_sign h.are_flags.0 refl, h.are_flags.1 ∙ has_others t number_sign minus refl, h.are_flags.2 ∙ has_others t number_sign plus refl, h.are_flags.3 ∙ has_others t number_sign space refl, h.are_flags.4 ∙ has_others t number_sign zero_digit refl, has_new t number_sign refl);
      no_width = h.no_width;
      no_precision = h.no_precision;
    }

flag_more : (t : Text) (f g : Field) (c flag : ℕ) → (c == flag) ≡ true → Flagged (t ++ flag ∷ []) g → Onward t f c (on_to stage.Flags g)
flag_more t f g c flag e h = more stage.Flags g (subst (λ d. Flagged (t ++ d ∷ []) g) (sym (eqb-true c flag e)) h)

onward_flag : (t : Text) (f : Field) (c : ℕ) → Flagged t f → Onward t f c (flag_next f c)
onward_flag t f c h =
    cond_both (c == minus) _ _ (Onward t f c) (λ e. flag_more t f (record f { minus = true }) c minus e (one_minus t f h))
    (λ _. cond_both (c == plus) _ _ (Onward t f c) (λ e. flag_more t f (record f { plus = true }) c plus e (one_plus t f h))
    (λ _. cond_both (c == space) _ _ (Onward t f c) (λ e. flag_more t f (record f { gap = true }) c space e (one_gap t f h))
    (λ _. cond_both (c == zero_digit) _ _ (Onward t f c) (λ e. flag_more t f (record f { zeros = true }) c zero_digit e (one_zero t f h))
    (λ n. cond_both (c == number_sign) _ _ (Onward t f c) (λ e. flag_more t f (record f { hash = true }) c number_sign e (one_hash t f h))
    (λ _. onward_width t f c (eqb-false c zero_digit n) h)))))

pub onward : (s : FormatStage) (t : Text) (f : Field) (c : ℕ) → At s t f → Onward t f c (next_of s f c)
onward stage.Plain t f c h = absurd h
onward stage.Flags t f c h = onward_flag t f c h
onward stage.Width t f c h = onward_more_width t f c h
onward stage.BehindWidth t f c h = onward_dot t f c h
onward stage.Precision t f c h = onward_precision t f c h
onward stage.PrecisionDigits t f c h = onward_precise t h.0 f c h.1
onward stage.BehindPrecision t f c h = onward_modifier t f c h
onward stage.BehindL t f c h = onward_second t f c h
onward stage.BehindLl t f c h = last
