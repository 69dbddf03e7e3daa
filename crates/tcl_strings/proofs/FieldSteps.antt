-- The parts of a field are read one behind the other.
use Rattle.std.proofs.Common.{◌≡◌, ◌≢◌, ℕ, ◌+◌, ◌*◌, ◌<◌, ◌≤◌, ◌==◌, min, Bool, true, false, ◌||◌, [], ◌∷◌, ◌++◌, Option, Some, None, append_assoc, sym, ap, ◌∙◌, subst, refl, arith, inl, inr, ◌⊎◌}
use Rattle.std.proofs.lemmas.Bool.{cases_Bool, and_parts, eqb-true, ne_eqb, leb-true, false≢true}
use Rattle.std.specs.Char.{digit_value}
use Rattle.std.specs.Str.Parse.{digits_value_after}
use Rattle.tcl_chars.specs.Characters.{number_sign, space, star}
use Rattle.tcl_pages.specs.Formats.{on_to, digit_of, next_of}
use Rattle.tcl_pages.specs.Strings.{is_among}
use Rattle.tcl_pages.specs.StringClasses.{is_digit}
use Rattle.tcl_pages.specs.StringLaws.{AllAre}
use Rattle.tcl_pages.specs.Texts.{Text}
use Rattle.tcl_pages.specs.declared.formats.Field.{Field}
use Rattle.tcl_pages.specs.declared.formats.FormatStage.{FormatStage}
use Rattle.tcl_pages.specs.declared.formats.FormatStage.TheVariants as stage
use Rattle.tcl_pages.specs.declared.formats.FormatStep.{FormatStep}
use Rattle.tcl_pages.specs.declared.formats.Size.{Size}
use Rattle.tcl_pages.specs.declared.formats.Size.TheVariants as size
use Rattle.tcl_strings.specs.FieldGrammar.{minus, plus, zero_digit, dot, letter_l, is_flag, IsFlags, size_of, IsWidth, IsPrecision, IsModifier, IsHead, IsField}
use Rattle.tcl_strings.specs.FieldGrammar as grammar
use Rattle.tcl_strings.specs.FieldLaws.{part_or, part_read}

-- t takes the stage s and the field f to the stage u and the field g
abbrev pub Goes : FormatStage → Field → Text → FormatStage → Field → Type 0
Goes s f t u g = (rest : Text) → part_read s f (t ++ rest) ≡ part_read u g rest

pub step_read : (f : Field) (x y : FormatStep) (rest : Text) → x ≡ y → part_or x.part f rest (part_read x.stage x.field rest) ≡ part_or y.part f rest (part_read y.stage y.field rest)
step_read f x y rest e = ap (λ (z : FormatStep). part_or z.part f rest (part_read z.stage z.field rest)) e

goes_on : (s u v : FormatStage) (f g h : Field) (c : ℕ) (cs : Text) → next_of s f c ≡ on_to u g → Goes u g cs v h → Goes s f (c ∷ cs) v h
goes_on s u v f g h c cs e k rest = step_read f (next_of s f c) (on_to u g) (cs ++ rest) e ∙ k rest

pub goes_then : (s u v : FormatStage) (f g h : Field) (t more : Text) → Goes s f t u g → Goes u g more v h → Goes s f (t ++ more) v h
goes_then s u v f g h t more a b rest = ap (part_read s f) (append_assoc t more rest) ∙ a (more ++ rest) ∙ b rest

-- ---- digits

abbrev within : ℕ → Size
within n = size.Given (min n 2147483648)

pub digit_bounds : (c : ℕ) → is_digit c ≡ true → (48 ≤ c) × (c ≤ 57)
digit_bounds c h = let both = and_parts _ _ h in (leb-true 48 c both.0, leb-true c 57 both.1)

pub no_digit_is : (c n : ℕ) → is_digit c ≡ true → (n < 48) ⊎ (57 < n) → (c == n) ≡ false
no_digit_is c n h (inl l) = let b = digit_bounds c h in ne_eqb c n (λ e. omega (arith, e, b.0, l))
no_digit_is c n h (inr l) = let b = digit_bounds c h in ne_eqb c n (λ e. omega (arith, e, b.1, l))

pub same_digit : (c : ℕ) → is_digit c ≡ true → digit_value c ≡ digit_of c
same_digit c h = let b = digit_bounds c h in grind (arith, b.0, b.1)

pub size_again : (n d : ℕ) → min (min n 2147483648 * 10 + d) 2147483648 ≡ min (n * 10 + d) 2147483648
size_again n d = omega arith

pub value_again : (n c : ℕ) → is_digit c ≡ true → min (min n 2147483648 * 10 + digit_of c) 2147483648 ≡ min (n * 10 + digit_value c) 2147483648
value_again n c h = size_again n (digit_of c) ∙ ap (λ d. min (n * 10 + d) 2147483648) (sym (same_digit c h))

pub first_value : (c : ℕ) → is_digit c ≡ true → digit_of c ≡ min (0 * 10 + digit_value c) 2147483648
first_value c h = let b = digit_bounds c h in sym (small (digit_of c) (omega (arith, b.1))) ∙ ap (λ d. min (0 * 10 + d) 2147483648) (sym (same_digit c h))
  where
    small : (d : ℕ) → d < 10 → min (0 * 10 + d) 2147483648 ≡ d
    small d l = omega arith

-- ---- flags

abbrev pub flagged : Field → Text → Field
flagged f t =
    record f { minus = is_among t minus || f.minus; plus = is_among t plus || f.plus; gap = is_among t space || f.gap; zeros = is_among t zero_digit || f.zeros; hash = is_among t number_sign || f.hash }

of_cases : (d : ℕ) (ds : Text) (c : ℕ) → is_among (d ∷ ds) c ≡ true → (d ≡ c) ⊎ (is_among ds c ≡ true)
of_cases d ds c h = elim (cases_Bool (d == c)) [
  | inl t ↦ inl (eqb-true d c t)
  | inr n ↦ inr (sym (ap (λ b. b || is_among ds c) n) ∙ h)
]

pub each_flag : (P : ℕ → Type 0) → P minus → P plus → P space → P zero_digit → P number_sign → (c : ℕ) → is_flag c ≡ true → P c
each_flag P m p s z n c h = elim (of_cases minus (plus ∷ space ∷ zero_digit ∷ number_sign ∷ []) c h) [
  | inl e ↦ subst P e m
  | inr h ↦ elim (of_cases plus (space ∷ zero_digit ∷ number_sign ∷ []) c h) [
    | inl e ↦ subst P e p
    | inr h ↦ elim (of_cases space (zero_digit ∷ number_sign ∷ []) c h) [
      | inl e ↦ subst P e s
      | inr h ↦ elim (of_cases zero_digit (number_sign ∷ []) c h) [
        | inl e ↦ subst P e z
        | inr h ↦ elim (of_cases number_sign [] c h) [
          | inl e ↦ subst P e n
          | inr h ↦ absurd (false≢true h)
        ]
      ]
    ]
  ]
]

flag_step : (f : Field) (c : ℕ) → is_flag c ≡ true → next_of stage.Flags f c ≡ on_to stage.Flags (flagged f (c ∷ []))
flag_step f = each_flag (λ c. next_of stage.Flags f c ≡ on_to stage.Flags (flagged f (c ∷ []))) refl refl refl refl refl

or_swap : (x y b : Bool) → (x || ((y || false) || b)) ≡ ((y || x) || b)
or_swap true true b = refl
or_swap true false b = refl
or_swap false true b = refl
or_swap false false b = refl

flagged_more : (f : Field) (c : ℕ) (cs : Text) → flagged (flagged f (c ∷ [])) cs ≡ flagged f (c ∷ cs)
flagged_more f c cs =
    rw (or_swap (is_among cs minus) (c == minus) f.minus, or_swap (is_among cs plus) (c == plus) f.plus, or_swap (is_among cs space) (c == space) f.gap, or_swap (is_among cs zero_digit) (c == zero_digit) f.zeros, or_swap (is_among cs number_sign) (c == number_sign) f.hash)
    refl

pub flags_go : (f : Field) (t : Text) → AllAre is_flag t → Goes stage.Flags f t stage.Flags (flagged f t)
flags_go f [] h = λ rest. refl
flags_go f (c ∷ cs) h =
    goes_on stage.Flags stage.Flags stage.Flags f (flagged f (c ∷ [])) (flagged f (c ∷ cs)) c cs (flag_step f c h.0)
    (subst (λ g. Goes stage.Flags (flagged f (c ∷ [])) cs stage.Flags g) (flagged_more f c cs) (flags_go (flagged f (c ∷ [])) cs h.1))

-- ---- a width

abbrev pub UpToWidth : FormatStage → Type 0
UpToWidth stage.Flags = Unit {0}
UpToWidth stage.Width = Unit {0}
UpToWidth stage.BehindWidth = Unit {0}
UpToWidth _ = ⊥

first_of_width : (f : Field) (d : ℕ) → d ≢ zero_digit → is_digit d ≡ true → next_of stage.Flags f d ≡ on_to stage.Width (record f { width = within (0 * 10 + digit_value d) })
first_of_width f d n h =
    rw (no_digit_is d minus h (inl (omega arith)), no_digit_is d plus h (inl (omega arith)), no_digit_is d space h (inl (omega arith)), ne_eqb d zero_digit n, no_digit_is d number_sign h (inl (omega arith)), no_digit_is d star h (inl (omega arith)), h)
    (ap (λ v. on_to stage.Width (record f { width = size.Given v })) (first_value d h))

more_of_width : (f : Field) (n d : ℕ) → is_digit d ≡ true → next_of stage.Width (record f { width = within n }) d ≡ on_to stage.Width (record f { width = within (n * 10 + digit_value d) })
more_of_width f n d h = rw h (ap (λ v. on_to stage.Width (record f { width = size.Given v })) (value_again n d h))

width_digits : (f : Field) (n : ℕ) (ds : Text) → AllAre is_digit ds → Goes stage.Width (record f { width = within n }) ds stage.Width (record f { width = within (digits_value_after 10 n ds) })
width_digits f n [] h = λ rest. refl
width_digits f n (d ∷ ds) h =
    goes_on stage.Width stage.Width stage.Width (record f { width = within n }) (record f { width = within (n * 10 + digit_value d) }) (record f { width = within (digits_value_after 10 n (d ∷ ds)) }) d ds (more_of_width f n d h.0)
    (width_digits f (n * 10 + digit_value d) ds h.1)

pub width_go : (f : Field) (t : Text) (w : Size) → IsWidth t w → (u : FormatStage) × UpToWidth u × Goes stage.Flags (record f { width = size.Given 0 }) t u (record f { width = w })
width_go f _ _ grammar.none = (stage.Flags, tt, λ rest. refl)
width_go f _ _ (grammar.number d ds n h) = (
  stage.Width,
  tt,
  goes_on stage.Flags stage.Width stage.Width (record f { width = size.Given 0 }) (record f { width = within (0 * 10 + digit_value d) }) (record f { width = size_of (d ∷ ds) }) d ds
      (first_of_width (record f { width = size.Given 0 }) d n h.0) (width_digits f (0 * 10 + digit_value d) ds h.1),
)
width_go f _ _ grammar.argument = (stage.BehindWidth, tt, λ rest. refl)

-- ---- a precision

abbrev pub UpToPrecision : FormatStage → Type 0
UpToPrecision stage.Precision = Unit {0}
UpToPrecision stage.PrecisionDigits = Unit {0}
UpToPrecision stage.BehindPrecision = Unit {0}
UpToPrecision s = UpToWidth s

width_is_before : (s : FormatStage) → UpToWidth s → UpToPrecision s
width_is_before stage.Plain h = h
width_is_before stage.Flags h = h
width_is_before stage.Width h = h
width_is_before stage.BehindWidth h = h
width_is_before stage.Precision h = tt
width_is_before stage.PrecisionDigits h = tt
width_is_before stage.BehindPrecision h = tt
width_is_before stage.BehindL h = h
width_is_before stage.BehindLl h = h

dot_step : (s : FormatStage) (f : Field) → UpToWidth s → next_of s f dot ≡ on_to stage.Precision (record f { precision = Some (within 0) })
dot_step stage.Plain f h = absurd h
dot_step stage.Flags f h = refl
dot_step stage.Width f h = refl
dot_step stage.BehindWidth f h = refl
dot_step stage.Precision f h = absurd h
dot_step stage.PrecisionDigits f h = absurd h
dot_step stage.BehindPrecision f h = absurd h
dot_step stage.BehindL f h = absurd h
dot_step stage.BehindLl f h = absurd h

first_of_precision : (f : Field) (n d : ℕ) → is_digit d ≡ true
    → next_of stage.Precision (record f { precision = Some (within n) }) d ≡ on_to stage.PrecisionDigits (record f { precision = Some (within (n * 10 + digit_value d)) })
first_of_precision f n d h = rw (no_digit_is d star h (inl (omega arith)), h) (ap (λ v. on_to stage.PrecisionDigits (record f { precision = Some (size.Given v) })) (value_again n d h))

more_of_precision : (f : Field) (n d : ℕ) → is_digit d ≡ true
    → next_of stage.PrecisionDigits (record f { precision = Some (within n) }) d ≡ on_to stage.PrecisionDigits (record f { precision = Some (within (n * 10 + digit_value d)) })
more_of_precision f n d h = rw h (ap (λ v. on_to stage.PrecisionDigits (record f { precision = Some (size.Given v) })) (value_again n d h))

precision_digits : (f : Field) (n : ℕ) (ds : Text) → AllAre is_digit ds
    → Goes stage.PrecisionDigits (record f { precision = Some (within n) }) ds stage.PrecisionDigits (record f { precision = Some (within (digits_value_after 10 n ds)) })
precision_digits f n [] h = λ rest. refl
precision_digits f n (d ∷ ds) h =
    goes_on stage.PrecisionDigits stage.PrecisionDigits stage.PrecisionDigits (record f { precision = Some (within n) }) (record f { precision = Some (within (n * 10 + digit_value d)) })
    (record f { precision = Some (within (digits_value_after 10 n (d ∷ ds))) }) d ds (more_of_precision f n d h.0) (precision_digits f (n * 10 + digit_value d) ds h.1)

behind_dot : (f : Field) (ds : Text) → AllAre is_digit ds
    → (u : FormatStage) × UpToPrecision u × Goes stage.Precision (record f { precision = Some (within 0) }) ds u (record f { precision = Some (size_of ds) })
behind_dot f [] h = (stage.Precision, tt, λ rest. refl)
behind_dot f (d ∷ ds) h = (
  stage.PrecisionDigits,
  tt,
  goes_on stage.Precision stage.PrecisionDigits stage.PrecisionDigits (record f { precision = Some (within 0) }) (record f { precision = Some (within (0 * 10 + digit_value d)) })
      (record f { precision = Some (size_of (d ∷ ds)) }) d ds (first_of_precision f 0 d h.0) (precision_digits f (0 * 10 + digit_value d) ds h.1),
)

pub precision_go : (s : FormatStage) (f : Field) (t : Text) (p : Option Size) → UpToWidth s → IsPrecision t p
    → (u : FormatStage) × UpToPrecision u × Goes s (record f { precision = None }) t u (record f { precision = p })
precision_go s f _ _ b grammar.none = (s, width_is_before s b, λ rest. refl)
precision_go s f _ _ b (grammar.number ds h) =
    let more = behind_dot f ds h in (
      more.0,
      more.1,
      goes_on s stage.Precision more.0 (record f { precision = None }) (record f { precision = Some (within 0) }) (record f { precision = Some (size_of ds) }) dot ds
          (dot_step s (record f { precision = None }) b) more.2,
    )
precision_go s f _ _ b grammar.argument = (
  stage.BehindPrecision,
  tt,
  goes_on s stage.Precision stage.BehindPrecision (record f { precision = None }) (record f { precision = Some (within 0) }) (record f { precision = Some size.FromArgument }) dot (star ∷ [])
      (dot_step s (record f { precision = None }) b) (λ rest. refl),
)

-- ---- a modifier

abbrev pub InField : FormatStage → Type 0
InField stage.Plain = ⊥
InField _ = Unit {0}

precision_is_in : (s : FormatStage) → UpToPrecision s → InField s
precision_is_in stage.Plain h = h
precision_is_in stage.Flags h = tt
precision_is_in stage.Width h = tt
precision_is_in stage.BehindWidth h = tt
precision_is_in stage.Precision h = tt
precision_is_in stage.PrecisionDigits h = tt
precision_is_in stage.BehindPrecision h = tt
precision_is_in stage.BehindL h = tt
precision_is_in stage.BehindLl h = tt

l_step : (s : FormatStage) (f : Field) → UpToPrecision s → next_of s f letter_l ≡ on_to stage.BehindL f
l_step stage.Plain f h = absurd h
l_step stage.Flags f h = refl
l_step stage.Width f h = refl
l_step stage.BehindWidth f h = refl
l_step stage.Precision f h = refl
l_step stage.PrecisionDigits f h = refl
l_step stage.BehindPrecision f h = refl
l_step stage.BehindL f h = absurd h
l_step stage.BehindLl f h = absurd h

pub modifier_go : (s : FormatStage) (f : Field) (t : Text) → UpToPrecision s → IsModifier t → (u : FormatStage) × InField u × Goes s f t u f
modifier_go s f _ b grammar.none = (s, precision_is_in s b, λ rest. refl)
modifier_go s f _ b grammar.one = (stage.BehindL, tt, goes_on s stage.BehindL stage.BehindL f f f letter_l [] (l_step s f b) (λ rest. refl))
modifier_go s f _ b grammar.two = (stage.BehindLl, tt, goes_on s stage.BehindL stage.BehindLl f f f letter_l (letter_l ∷ []) (l_step s f b) (λ rest. refl))
