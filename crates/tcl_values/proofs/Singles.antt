-- Texts that are read as a list of one element, themselves: numbers, and words of characters that stand for themselves.
use Rattle.std.proofs.Common.{◌≡◌, ◌≤◌, ◌<◌, ℕ, ◌^◌, true, false, not, ◌||◌, ◌&&◌, ◌==◌, List, [], ◌∷◌, append-nil, length, Ok, refl, sym, subst, ap, ◌∙◌, arith, suc, ℤ, pos, negsuc, FitsSigned}
use Rattle.std.specs.Int.{w64}
use Rattle.std.specs.Fmt.{decimal, signed_decimal}
use Rattle.std.specs.List.{list_all}
use Rattle.std.specs.Str.Parse.{AllDigits}
use Rattle.std.proofs.lemmas.Bool.{and_parts, and_from, or_parts, ne_eqb, cond-true, not-true}
use Rattle.std.proofs.lemmas.Fmt.{decimal_is_IsNumeral, decimal_nonempty}
use Rattle.std.proofs.lemmas.Str.Parse.{digit_from_value}
use Rattle.tcl_chars.specs.Characters.{number_sign}
use Rattle.tcl_chars.specs.Classes.{is_list_space}
use Rattle.tcl_list.specs.Elements.{elements_of}
use Rattle.tcl_list.specs.Written.{is_special, needs_no_backslash, is_comment, spelled, written_element, appended, written}
use Rattle.tcl_values.specs.Singles.{is_plain}
use Rattle.tcl_values.proofs.Joined.{reads_written}

plain_parts : (c : ℕ) → is_plain c ≡ true → ((is_list_space c || is_special c) ≡ false) × ((c == number_sign) ≡ false)
plain_parts c h = or_parts (is_list_space c || is_special c) (c == number_sign) (not-true _ h)

no_backslash : (cs : List ℕ) → list_all is_plain cs ≡ true → needs_no_backslash cs ≡ true
no_backslash [] h = refl
no_backslash (c ∷ cs) h =
    let p = and_parts _ _ h in
    and_from _ _ (ap not (plain_parts c p.0).0) (no_backslash cs p.1)

-- A word of such characters is written as it is.
plain_written : (cs : List ℕ) → list_all is_plain cs ≡ true → 0 < length cs → written (cs ∷ []) ≡ cs
unfolding appended written_element
plain_written [] h l = absurd (omega arith)
plain_written (c ∷ cs) h l =
    let bare : (needs_no_backslash (c ∷ cs) && not (is_comment true (c ∷ cs))) ≡ true = and_from _ _ (no_backslash (c ∷ cs) h) (ap not (plain_parts c (and_parts _ _ h).0).1) in
    append-nil _ ∙ ap (λ f. spelled f true (c ∷ cs)) (cond-true _ _ _ bare)

single : (cs : List ℕ) → list_all is_plain cs ≡ true → 0 < length cs → elements_of cs ≡ Ok (cs ∷ [])
single cs h l = ap elements_of (sym (plain_written cs h l)) ∙ reads_written (cs ∷ [])

pub single_word : (cs rest : List ℕ) (c : ℕ) → cs ≡ c ∷ rest → is_plain c ≡ true → list_all is_plain rest ≡ true → elements_of cs ≡ Ok (cs ∷ [])
single_word cs rest c e first others =
    let P : List ℕ → Type 0 = λ t. elements_of t ≡ Ok (t ∷ []) in
    subst P (sym e) (single (c ∷ rest) (and_from _ _ first others) (omega arith))

-- ---- numbers

plain_digit : (c : ℕ) → 48 ≤ c → c ≤ 57 → is_plain c ≡ true
plain_digit c l u =
    rw (
      ne_eqb c 32 (λ e. omega arith),
      ne_eqb c 9 (λ e. omega arith),
      ne_eqb c 11 (λ e. omega arith),
      ne_eqb c 12 (λ e. omega arith),
      ne_eqb c 13 (λ e. omega arith),
      ne_eqb c 10 (λ e. omega arith),
      ne_eqb c 123 (λ e. omega arith),
      ne_eqb c 125 (λ e. omega arith),
      ne_eqb c 91 (λ e. omega arith),
      ne_eqb c 93 (λ e. omega arith),
      ne_eqb c 36 (λ e. omega arith),
      ne_eqb c 34 (λ e. omega arith),
      ne_eqb c 59 (λ e. omega arith),
      ne_eqb c 92 (λ e. omega arith),
      ne_eqb c 35 (λ e. omega arith),
    ) refl

plain_digits : (ds : List ℕ) → AllDigits 10 ds → list_all is_plain ds ≡ true
plain_digits [] d = refl
plain_digits (c ∷ cs) d =
    let k = digit_from_value c d.0 in
    and_from _ _ (plain_digit c (omega arith) (omega arith)) (plain_digits cs d.1)

plain_decimal : (n : ℕ) → n < 2 ^ 64 → list_all is_plain (decimal n) ≡ true
plain_decimal n h = plain_digits (decimal n) (decimal_is_IsNumeral n h).0.1

plain_number : (z : ℤ) → FitsSigned w64 z → list_all is_plain (signed_decimal z) ≡ true
plain_number (pos n) f = plain_decimal n (omega (arith, f.sfits))
plain_number (negsuc n) f = plain_decimal (suc n) (omega (arith, f.sfits))

number_there : (z : ℤ) → FitsSigned w64 z → 0 < length (signed_decimal z)
number_there (pos n) f = decimal_nonempty n (omega (arith, f.sfits))
number_there (negsuc n) f = omega arith

pub single_number : (z : ℤ) → FitsSigned w64 z → elements_of (signed_decimal z) ≡ Ok (signed_decimal z ∷ [])
single_number z f = single (signed_decimal z) (plain_number z f) (number_there z f)

pub number_written : (z : ℤ) → FitsSigned w64 z → written (signed_decimal z ∷ []) ≡ signed_decimal z
number_written z f = plain_written (signed_decimal z) (plain_number z f) (number_there z f)
