-- A number without white space ends before a sign: it has none behind its first character, and with a sign behind it it is
-- no number.
use Rattle.std.proofs.Common.{◌≡◌, ℕ, zero, suc, ◌+◌, ◌<◌, ◌≤◌, Bool, true, false, not, ◌||◌, ◌==◌, cond, List, [], ◌∷◌, ◌++◌, length, drop, Option, Some, None, ℤ, sym, ◌∙◌, ap, subst, refl, arith, inl, inr}
use Rattle.std.specs.Prelude.{nat_lt}
use Rattle.std.specs.Char.{digit_value, is_ascii_digit}
use Rattle.std.proofs.lemmas.Bool.{cases_Bool, cond-true, cond-false, cond_both, not-false, or_parts, or_right, eqb-true, ne_eqb, le-ltb}
use Rattle.std.proofs.lemmas.Bool.Decides.{nat_tests}
use Rattle.std.proofs.lemmas.List.{length-drop, drop_at}
use Rattle.std.proofs.lemmas.List.Sums.{prefix_len-le-length}
use Rattle.tcl_chars.specs.Classes.{is_list_space}
use Rattle.tcl_chars.specs.Index.{has_space, to_sign}
use Rattle.tcl_chars.specs.Place.{tail}
use Rattle.tcl_chars.specs.Whole.{skip_space, is_only_space, sign_of, zero_radix, radix_behind_zero, radix_of, digits_len, numeral, signed, magnitude, whole_of}
use Rattle.tcl_chars.specs.declared.numbers.Dialect.{Dialect}
use Rattle.tcl_chars.specs.declared.numbers.Dialect.TheVariants.{Tcl86, Tcl9}
use Rattle.tcl_chars.specs.declared.numbers.Whole.TheVariants.{Number, Not}
use Rattle.tcl_chars.proofs.Ends.{if_cond}
use Rattle.tcl_chars.proofs.Figures.{whole_is}

-- ---- signs

pub data IsSign : ℕ → Type 0 where
  is_plus : IsSign 43
  is_minus : IsSign 45

abbrev pub sign_test : ℕ → Bool
sign_test c = (c == 43) || (c == 45)

pub sign_is : (c : ℕ) → sign_test c ≡ true → IsSign c
sign_is c h = elim (cases_Bool (c == 43)) [
  | inl e ↦ subst IsSign (sym (eqb-true c 43 e)) is_plus
  | inr n ↦ let m : (c == 45) ≡ true = rw n at h in subst IsSign (sym (eqb-true c 45 m)) is_minus
]

sign_not_digit : (s radix : ℕ) → IsSign s → radix ≤ 16 → nat_lt (digit_value s) radix ≡ false
sign_not_digit _ radix is_plus l = le-ltb 36 radix (omega arith)
sign_not_digit _ radix is_minus l = le-ltb 36 radix (omega arith)

pub digit_not_sign : (c radix : ℕ) → radix ≤ 16 → nat_lt (digit_value c) radix ≡ true → sign_test c ≡ false
digit_not_sign c radix l h = grind (arith, nat_tests)

-- a sign stands behind a text without one
pub to_sign_past : (t : List ℕ) (s : ℕ) (o : List ℕ) → IsSign s → to_sign t ≡ [] → to_sign (t ++ s ∷ o) ≡ s ∷ o
to_sign_past [] _ o is_plus h = refl
to_sign_past [] _ o is_minus h = refl
to_sign_past (c ∷ t) s o i h = elim (cases_Bool (sign_test c)) [
  | inl here ↦ absurd (let k : c ∷ t ≡ [] = rw here at h in cc)
  | inr other ↦ let k : to_sign t ≡ [] = rw other at h in rw other (to_sign_past t s o i k)
]

pub signless_parts : (c : ℕ) (t : List ℕ) → to_sign (c ∷ t) ≡ [] → (sign_test c ≡ false) × (to_sign t ≡ [])
signless_parts c t h = elim (cases_Bool (sign_test c)) [
  | inl here ↦ absurd (let k : c ∷ t ≡ [] = rw here at h in cc)
  | inr other ↦ (other, rw other at h)
]

pub signless_more : (c : ℕ) (t : List ℕ) → sign_test c ≡ false → to_sign t ≡ [] → to_sign (c ∷ t) ≡ []
signless_more c t e h = rw e h

-- ---- digits

abbrev AllDigitsOf : ℕ → List ℕ → Type 0
AllDigitsOf radix ds = digits_len radix ds ≡ length ds

first_is_digit : (radix c : ℕ) (ds : List ℕ) → AllDigitsOf radix (c ∷ ds) → (nat_lt (digit_value c) radix ≡ true) × AllDigitsOf radix ds
first_is_digit radix c ds h = elim (cases_Bool (nat_lt (digit_value c) radix)) [
  | inl d ↦ (d, (let k : digits_len radix (c ∷ ds) ≡ 1 + digits_len radix ds = cond-true _ _ _ d in omega (arith, h, k)))
  | inr n ↦ absurd (let k : digits_len radix (c ∷ ds) ≡ 0 = cond-false _ _ _ n in omega (arith, h, k))
]

digits_signless : (radix : ℕ) (ds : List ℕ) → radix ≤ 16 → AllDigitsOf radix ds → to_sign ds ≡ []
digits_signless radix [] l h = refl
digits_signless radix (c ∷ ds) l h = let f = first_is_digit radix c ds h in signless_more c ds (digit_not_sign c radix l f.0) (digits_signless radix ds l f.1)

digits_before : (radix : ℕ) (ds : List ℕ) (s : ℕ) (o : List ℕ) → nat_lt (digit_value s) radix ≡ false → AllDigitsOf radix ds → digits_len radix (ds ++ s ∷ o) ≡ length ds
digits_before radix [] s o n h = rw n refl
digits_before radix (c ∷ ds) s o n h =
    let f = first_is_digit radix c ds h in
    let k : digits_len radix (c ∷ (ds ++ s ∷ o)) ≡ 1 + digits_len radix (ds ++ s ∷ o) = cond-true _ _ _ f.0 in
    omega (arith, k, digits_before radix ds s o n f.1)

sign_is_no_space : (s : ℕ) (o : List ℕ) → IsSign s → is_only_space (s ∷ o) ≡ false
sign_is_no_space _ o is_plus = ne_eqb _ 0 (λ e. omega (arith, e))
sign_is_no_space _ o is_minus = ne_eqb _ 0 (λ e. omega (arith, e))

numeral_before : (radix : ℕ) (ds : List ℕ) (s : ℕ) (o : List ℕ) → IsSign s → radix ≤ 16 → AllDigitsOf radix ds → numeral radix (ds ++ s ∷ o) ≡ None
numeral_before radix ds s o i l h =
    let n : digits_len radix (ds ++ s ∷ o) ≡ length ds = digits_before radix ds s o (sign_not_digit s radix i l) h in
    let d : drop (digits_len radix (ds ++ s ∷ o)) (ds ++ s ∷ o) ≡ s ∷ o = drop_at ds (s ∷ o) _ (sym n) in
    cond-true _ _ _ (or_right _ _ (ap (λ t. not (is_only_space t)) d ∙ ap not (sign_is_no_space s o i)))

-- ---- the radix

cond_behind : (b : Bool) (x y u v : ℕ × List ℕ) (r : List ℕ) → u ≡ (x.0, x.1 ++ r) → v ≡ (y.0, y.1 ++ r) → cond b u v ≡ ((cond b x y).0, (cond b x y).1 ++ r)
cond_behind true x y u v r e f = e
cond_behind false x y u v r e f = f

zero_radix_le : (dialect : Dialect) → zero_radix dialect ≤ 16
zero_radix_le Tcl86 = omega arith
zero_radix_le Tcl9 = omega arith

pub radix_le : (dialect : Dialect) (cs : List ℕ) → (radix_of dialect cs).0 ≤ 16
radix_le dialect [] = omega arith
radix_le dialect (c ∷ []) = omega arith
radix_le dialect (c ∷ d ∷ cs) =
    let P : ℕ × List ℕ → Type 0 = λ p. p.0 ≤ 16 in
    if_cond P (c == 48) (radix_behind_zero dialect d cs) (10, c ∷ d ∷ cs)
    (if_cond P (d == 120 || d == 88) _ _ (omega arith) (if_cond P (d == 111 || d == 79) _ _ (omega arith) (if_cond P (d == 98 || d == 66) _ _ (omega arith)
    (if_cond P (is_ascii_digit d) _ _ (zero_radix_le dialect) (omega arith)))))
    (omega arith)

behind_zero_before : (dialect : Dialect) (d : ℕ) (t r : List ℕ) → radix_behind_zero dialect d (t ++ r) ≡ ((radix_behind_zero dialect d t).0, (radix_behind_zero dialect d t).1 ++ r)
behind_zero_before dialect d t r =
    cond_behind (d == 120 || d == 88) (16, t) _ (16, t ++ r) _ r refl
    (cond_behind (d == 111 || d == 79) (8, t) _ (8, t ++ r) _ r refl
    (cond_behind (d == 98 || d == 66) (2, t) _ (2, t ++ r) _ r refl
    (cond_behind (is_ascii_digit d) (zero_radix dialect, d ∷ t) (10, 48 ∷ d ∷ t) (zero_radix dialect, d ∷ (t ++ r)) (10, 48 ∷ d ∷ (t ++ r)) r refl refl)))

-- a sign behind digits changes nothing of the radix
radix_before : (dialect : Dialect) (c : ℕ) (t : List ℕ) (s : ℕ) (o : List ℕ) → IsSign s → radix_of dialect (c ∷ (t ++ s ∷ o)) ≡ ((radix_of dialect (c ∷ t)).0, (radix_of dialect (c ∷ t)).1 ++ s ∷ o)
radix_before dialect c [] _ o is_plus = elim (cases_Bool (c == 48)) [
  | inl e ↦ rw e (ap (λ k. (10, k ∷ 43 ∷ o)) (sym (eqb-true c 48 e)))
  | inr n ↦ rw n refl
]
radix_before dialect c [] _ o is_minus = elim (cases_Bool (c == 48)) [
  | inl e ↦ rw e (ap (λ k. (10, k ∷ 45 ∷ o)) (sym (eqb-true c 48 e)))
  | inr n ↦ rw n refl
]
radix_before dialect c (d ∷ t) s o i = cond_behind (c == 48) (radix_behind_zero dialect d t) (10, c ∷ d ∷ t) _ _ (s ∷ o) (behind_zero_before dialect d t (s ∷ o)) refl

letter_not_sign : (a b d : ℕ) → 45 < a → 45 < b → (d == a || d == b) ≡ true → sign_test d ≡ false
letter_not_sign a b d l m h = grind (arith, nat_tests)

pub radix_signless : (dialect : Dialect) (cs : List ℕ) → to_sign (radix_of dialect cs).1 ≡ [] → to_sign cs ≡ []
radix_signless dialect [] h = refl
radix_signless dialect (c ∷ []) h = h
radix_signless dialect (c ∷ d ∷ cs) h =
    let P : ℕ × List ℕ → Type 0 = λ p. to_sign p.1 ≡ [] → to_sign (d ∷ cs) ≡ [] in
    let Q : ℕ × List ℕ → Type 0 = λ p. to_sign p.1 ≡ [] → to_sign (c ∷ d ∷ cs) ≡ [] in
    let behind : P (radix_behind_zero dialect d cs) =
    cond_both (d == 120 || d == 88) _ _ P (λ e k. signless_more d cs (letter_not_sign 120 88 d (omega arith) (omega arith) e) k)
    (λ e. cond_both (d == 111 || d == 79) _ _ P (λ e k. signless_more d cs (letter_not_sign 111 79 d (omega arith) (omega arith) e) k)
    (λ e. cond_both (d == 98 || d == 66) _ _ P (λ e k. signless_more d cs (letter_not_sign 98 66 d (omega arith) (omega arith) e) k)
    (λ e. cond_both (is_ascii_digit d) _ _ P (λ e k. k) (λ e k. (signless_parts 48 (d ∷ cs) k).1)))) in
    cond_both (c == 48) (radix_behind_zero dialect d cs) (10, c ∷ d ∷ cs) Q
    (λ e k. signless_more c (d ∷ cs) (ap sign_test (eqb-true c 48 e)) (behind k)) (λ e k. k) h

radix_plain : (dialect : Dialect) (cs : List ℕ) → has_space cs ≡ false → has_space (radix_of dialect cs).1 ≡ false
radix_plain dialect [] h = h
radix_plain dialect (c ∷ []) h = h
radix_plain dialect (c ∷ d ∷ cs) h =
    let P : ℕ × List ℕ → Type 0 = λ p. has_space p.1 ≡ false in
    let f : has_space (d ∷ cs) ≡ false = (or_parts (is_list_space c) _ h).1 in
    let g : has_space cs ≡ false = (or_parts (is_list_space d) _ f).1 in
    if_cond P (c == 48) (radix_behind_zero dialect d cs) (10, c ∷ d ∷ cs)
    (if_cond P (d == 120 || d == 88) _ _ g (if_cond P (d == 111 || d == 79) _ _ g (if_cond P (d == 98 || d == 66) _ _ g
    (if_cond P (is_ascii_digit d) _ _ f f))))
    h

-- ---- numbers without white space

plain_drop : (n : ℕ) (cs : List ℕ) → has_space cs ≡ false → has_space (drop n cs) ≡ false
plain_drop zero cs h = h
plain_drop (suc n) [] h = refl
plain_drop (suc n) (c ∷ cs) h = plain_drop n cs (or_parts (is_list_space c) _ h).1

nothing_left : (cs : List ℕ) → has_space cs ≡ false → is_only_space cs ≡ true → cs ≡ []
nothing_left [] h k = refl
nothing_left (c ∷ cs) h k =
    let solid : is_list_space c ≡ false = (or_parts (is_list_space c) _ h).0 in
    let e : skip_space (c ∷ cs) ≡ c ∷ cs = cond-false _ _ _ solid in
    absurd (omega (arith, eqb-true (length (skip_space (c ∷ cs))) 0 k, ap length e))

numeral_digits : (radix n : ℕ) (ds : List ℕ) → has_space ds ≡ false → numeral radix ds ≡ Some n → AllDigitsOf radix ds
numeral_digits radix n ds p h =
    let k = digits_len radix ds in
    elim (cases_Bool (k == 0 || not (is_only_space (drop k ds)))) [
      | inl bad ↦ absurd (let e = sym (cond-true _ _ _ bad) ∙ h in cc)
      | inr good ↦
          let only : is_only_space (drop k ds) ≡ true = not-false _ (or_parts (k == 0) (not (is_only_space (drop k ds))) good).1 in
          let e : drop k ds ≡ [] = nothing_left (drop k ds) (plain_drop k ds p) only in
          let le : k ≤ length ds = prefix_len-le-length (λ c. nat_lt (digit_value c) radix) ds in
          omega (arith, ap length e, length-drop k ds, le)
    ]

magnitude_digits : (dialect : Dialect) (cs : List ℕ) (n : ℕ) → has_space cs ≡ false → magnitude dialect cs ≡ Some n → AllDigitsOf (radix_of dialect cs).0 (radix_of dialect cs).1
unfolding magnitude
magnitude_digits dialect cs n p h = numeral_digits (radix_of dialect cs).0 n (radix_of dialect cs).1 (radix_plain dialect cs p) h

magnitude_signless : (dialect : Dialect) (cs : List ℕ) (n : ℕ) → has_space cs ≡ false → magnitude dialect cs ≡ Some n → to_sign cs ≡ []
magnitude_signless dialect cs n p h = radix_signless dialect cs (digits_signless _ _ (radix_le dialect cs) (magnitude_digits dialect cs n p h))

magnitude_before : (dialect : Dialect) (cs : List ℕ) (n s : ℕ) (o : List ℕ) → IsSign s → has_space cs ≡ false → magnitude dialect cs ≡ Some n → magnitude dialect (cs ++ s ∷ o) ≡ None
unfolding magnitude
magnitude_before dialect [] n s o i p h = absurd cc
magnitude_before dialect (c ∷ t) n s o i p h =
    ap (λ (r : ℕ × List ℕ). numeral r.0 r.1) (radix_before dialect c t s o i)
    ∙ numeral_before (radix_of dialect (c ∷ t)).0 (radix_of dialect (c ∷ t)).1 s o i (radix_le dialect (c ∷ t)) (numeral_digits _ n _ (radix_plain dialect (c ∷ t) p) h)

signed_number : (negative : Bool) (m : Option ℕ) (z : ℤ) → signed negative m ≡ Number z → (n : ℕ) × (m ≡ Some n)
signed_number negative (Some n) z h = (n, refl)
signed_number true None z h = absurd cc
signed_number false None z h = absurd cc

-- what a number is behind its sign
record Unsigned (dialect : Dialect) (c : ℕ) (t : List ℕ) : Type 0 where
  negative : Bool
  digits : List ℕ
  size : ℕ
  sign : sign_of (c ∷ t) ≡ (negative, digits)
  more : (r : List ℕ) → sign_of (c ∷ (t ++ r)) ≡ (negative, digits ++ r)
  plain : has_space digits ≡ false
  says : magnitude dialect digits ≡ Some size
  signless : to_sign t ≡ []

number_says : (dialect : Dialect) (c : ℕ) (t digits : List ℕ) (negative : Bool) (z : ℤ) → is_list_space c ≡ false → sign_of (c ∷ t) ≡ (negative, digits) → whole_of dialect (c ∷ t) ≡ Number z → (n : ℕ) × (magnitude dialect digits ≡ Some n)
number_says dialect c t digits negative z solid e h =
    signed_number negative (magnitude dialect digits) z (sym (whole_is dialect (c ∷ t) (c ∷ t) digits negative (sym (cond-false _ _ _ solid)) (sym (ap (λ p. p.0) e)) (sym (ap (λ p. p.1) e))) ∙ h)

unsigned : (dialect : Dialect) (c : ℕ) (t : List ℕ) (z : ℤ) → has_space (c ∷ t) ≡ false → whole_of dialect (c ∷ t) ≡ Number z → Unsigned dialect c t
unsigned dialect c t z p h =
    let both = or_parts (is_list_space c) (has_space t) p in
    elim (cases_Bool (c == 45)) [
      | inl minus ↦
          let e : sign_of (c ∷ t) ≡ (true, t) = cond-true _ _ _ minus in
          let (n, k) = number_says dialect c t t true z both.0 e h in
          record { negative = true; digits = t; size = n; sign = e; more = λ r. cond-true _ _ _ minus; plain = both.1; says = k; signless = magnitude_signless dialect t n both.1 k }
      | inr other ↦ elim (cases_Bool (c == 43)) [
        | inl plus ↦
            let e : sign_of (c ∷ t) ≡ (false, t) = cond-false _ _ _ other ∙ cond-true _ _ _ plus in
            let (n, k) = number_says dialect c t t false z both.0 e h in
            record { negative = false; digits = t; size = n; sign = e; more = λ r. cond-false _ _ _ other ∙ cond-true _ _ _ plus; plain = both.1; says = k; signless = magnitude_signless dialect t n both.1 k }
        | inr none ↦
            let e : sign_of (c ∷ t) ≡ (false, c ∷ t) = cond-false _ _ _ other ∙ cond-false _ _ _ none in
            let (n, k) = number_says dialect c t (c ∷ t) false z both.0 e h in
            record { negative = false; digits = c ∷ t; size = n; sign = e; more = λ r. cond-false _ _ _ other ∙ cond-false _ _ _ none; plain = p; says = k; signless = (signless_parts c t (magnitude_signless dialect (c ∷ t) n p k)).1 }
      ]
    ]

not_empty : (dialect : Dialect) (z : ℤ) → whole_of dialect [] ≡ Number z → ⊥
unfolding whole_of magnitude
not_empty dialect z h = cc

-- with a sign behind it the text is no number
pub no_number_before : (dialect : Dialect) (cs : List ℕ) (z : ℤ) (s : ℕ) (o : List ℕ) → IsSign s → has_space cs ≡ false → whole_of dialect cs ≡ Number z → whole_of dialect (cs ++ s ∷ o) ≡ Not
no_number_before dialect [] z s o i p h = absurd (not_empty dialect z h)
no_number_before dialect (c ∷ t) z s o i p h =
    let u = unsigned dialect c t z p h in
    let r = s ∷ o in
    let e = u.more r in
    whole_is dialect (c ∷ (t ++ r)) (c ∷ (t ++ r)) (u.digits ++ r) u.negative (sym (cond-false _ _ _ (or_parts (is_list_space c) (has_space t) p).0)) (sym (ap (λ p. p.0) e)) (sym (ap (λ p. p.1) e))
    ∙ ap (signed u.negative) (magnitude_before dialect u.digits u.size s o i u.plain u.says)

-- and its first sign behind the first character is that one
pub sign_found : (dialect : Dialect) (cs : List ℕ) (z : ℤ) (s : ℕ) (o : List ℕ) → IsSign s → has_space cs ≡ false → whole_of dialect cs ≡ Number z → to_sign (tail (cs ++ s ∷ o)) ≡ s ∷ o
sign_found dialect [] z s o i p h = absurd (not_empty dialect z h)
sign_found dialect (c ∷ t) z s o i p h = to_sign_past t s o i (unsigned dialect c t z p h).signless
