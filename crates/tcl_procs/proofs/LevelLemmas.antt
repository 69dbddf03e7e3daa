-- Words that name a level: digits, and the frames that are there.
use Rattle.std.proofs.Common.{◌≡◌, ℕ, suc, ◌+◌, ◌≤◌, ◌^◌, Bool, true, false, not, ◌==◌, [], ◌∷◌, length, Option, None, Some, Err, refl, sym, ap, ◌∙◌, arith, inl, inr}
use Rattle.std.proofs.Math.Dec.{eqb-suc-suc, eqb-suc-zero, eqb-zero-suc}
use Rattle.std.proofs.lemmas.Bool.{cond-true, cond-false, cases_Bool, ltb-false}
use Rattle.std.proofs.lemmas.Bool.Decides.{nat_tests}
use Rattle.std.specs.Char.{digit_value, is_ascii_digit}
use Rattle.std.specs.Prelude.{◌&&◌, IfSome, nat_lt, if◌then◌else◌}
use Rattle.std.specs.Str.Parse.{digits_value}
use Rattle.tcl_chars.specs.Whole.{digits_len, is_digits, decimal_of}
use Rattle.tcl_chars.specs.declared.numbers.Decimal.{Decimal}
use Rattle.tcl_chars.specs.declared.numbers.Decimal.TheVariants as decimal
use Rattle.tcl_frames.specs.Levels.{level_of}
use Rattle.tcl_frames.specs.Standing.{Standing, store_of}
use Rattle.tcl_frames.specs.declared.level.Level.{Level}
use Rattle.tcl_meaning.specs.Frames as frames
use Rattle.tcl_meaning.specs.Procedures.{only_digits, digits_number, level_word, level_in, level_named, if_there, bad_level}
use Rattle.tcl_meaning.specs.State.{Commands}
use Rattle.tcl_pages.specs.Texts.{Text}
use Rattle.tcl_procs.specs.Levels.{ReadsNumber, IsHigh, ReadsLevel, found_level}

-- ---- digits

digit_is : (c : ℕ) → is_ascii_digit c ≡ nat_lt (digit_value c) 10
digit_is c = grind (arith, nat_tests)

digits_are : (cs : Text) → only_digits cs ≡ (digits_len 10 cs == length cs)
digits_are [] = refl
digits_are (c ∷ cs) = elim (cases_Bool (nat_lt (digit_value c) 10)) [
  | inl d ↦
      let k : digits_len 10 (c ∷ cs) ≡ 1 + digits_len 10 cs = cond-true _ _ _ d in
      let m : digits_len 10 (c ∷ cs) ≡ suc (digits_len 10 cs) = omega (arith, k) in
      ap (λ b. b && only_digits cs) (digit_is c ∙ d) ∙ digits_are cs ∙ sym (ap (λ n. n == suc (length cs)) m ∙ eqb-suc-suc (digits_len 10 cs) (length cs))
  | inr n ↦
      let k : digits_len 10 (c ∷ cs) ≡ 0 = cond-false _ _ _ n in
      ap (λ b. b && only_digits cs) (digit_is c ∙ n) ∙ sym (ap (λ n. n == suc (length cs)) k ∙ eqb-zero-suc (length cs))
]

abbrev number_by : Bool → ℕ → Option ℕ
number_by b v = if b then Some v else None

number_is : (t : Text) → digits_number t ≡ number_by (is_digits t) (digits_value 10 t)
number_is [] = refl
number_is (c ∷ cs) =
    let d = c ∷ cs in
    ap (λ b. number_by b (digits_value 10 d)) (digits_are d) ∙ sym (ap (λ b. number_by (not b && (digits_len 10 d == length d)) (digits_value 10 d)) (eqb-suc-zero (length cs)))

abbrev decimal_by : Bool → Bool → ℕ → Decimal
decimal_by b small v = if b then (if small then decimal.Number v else decimal.TooLarge) else decimal.Not

number_by_is : (b small : Bool) (v n : ℕ) → decimal.Number n ≡ decimal_by b small v → number_by b v ≡ Some n
number_by_is true true v n e = cc
number_by_is true false v n e = cc
number_by_is false small v n e = cc

high_by : (b small : Bool) (v : ℕ) → nat_lt v (2 ^ 63) ≡ small → decimal.TooLarge ≡ decimal_by b small v → IfSome (number_by b v) (λ n. 2 ^ 63 ≤ n)
high_by true true v h e = absurd cc
high_by true false v h e = ltb-false v (2 ^ 63) h
high_by false small v h e = tt

none_by : (b small : Bool) (v : ℕ) → decimal.Not ≡ decimal_by b small v → number_by b v ≡ None
none_by true true v e = cc
none_by true false v e = cc
none_by false small v e = refl

pub number_read : (t : Text) (d : Decimal) (n : ℕ) → d ≡ decimal_of t → d ≡ decimal.Number n → ReadsNumber t (Some n)
number_read t d n e h = number_is t ∙ number_by_is (is_digits t) (nat_lt (digits_value 10 t) (2 ^ 63)) (digits_value 10 t) n (sym h ∙ e)

pub number_high : (t : Text) (d : Decimal) → d ≡ decimal_of t → d ≡ decimal.TooLarge → ReadsNumber t None
number_high t d e h = rw (number_is t) (high_by (is_digits t) (nat_lt (digits_value 10 t) (2 ^ 63)) (digits_value 10 t) refl (sym h ∙ e))

pub no_number : (t : Text) (d : Decimal) → d ≡ decimal_of t → d ≡ decimal.Not → ReadsNumber t None
no_number t d e h = rw (number_is t ∙ none_by (is_digits t) (nat_lt (digits_value 10 t) (2 ^ 63)) (digits_value 10 t) (sym h ∙ e)) tt

-- ---- frames

module _ (t : Text) (f : Standing) (cs : Commands) where
  pub level_found : (l : Level) (o : Option ℕ) (i : ℕ) → ReadsLevel t (Some l) → o ≡ frames.frame_of_level f.frames f.active (level_of l) → o ≡ Some i → level_named (store_of cs f) t ≡ found_level t (Some l)
  unfolding level_named
  level_found l o i r e h = ap (level_in (store_of cs f) t) r ∙ ap (if_there t (level_of l)) (sym e ∙ h)

  pub no_frame : (l : Level) (o : Option ℕ) → ReadsLevel t (Some l) → o ≡ frames.frame_of_level f.frames f.active (level_of l) → o ≡ None → level_named (store_of cs f) t ≡ found_level t None
  unfolding level_named
  no_frame l o r e h = ap (level_in (store_of cs f) t) r ∙ ap (if_there t (level_of l)) (sym e ∙ h)

  too_high : (o : Option frames.Level) → IfSome o IsHigh → ((n : ℕ) → 2 ^ 63 ≤ n → frames.frame_of_level f.frames f.active (frames.up n) ≡ None)
      → ((n : ℕ) → 2 ^ 63 ≤ n → frames.frame_of_level f.frames f.active (frames.at n) ≡ None) → level_in (store_of cs f) t o ≡ Err (bad_level t)
  too_high None h ups ats = refl
  too_high (Some (frames.up n)) h ups ats = ap (if_there t (frames.up n)) (ups n h)
  too_high (Some (frames.at n)) h ups ats = ap (if_there t (frames.at n)) (ats n h)

  pub no_level : ReadsLevel t None → ((n : ℕ) → 2 ^ 63 ≤ n → frames.frame_of_level f.frames f.active (frames.up n) ≡ None)
      → ((n : ℕ) → 2 ^ 63 ≤ n → frames.frame_of_level f.frames f.active (frames.at n) ≡ None) → level_named (store_of cs f) t ≡ found_level t None
  unfolding level_named
  no_level r ups ats = too_high (level_word t) r ups ats
