-- What a text writes as a number of any size, and where a sign can stand in it.
use Rattle.std.proofs.Common.{◌≡◌, ℕ, zero, suc, ◌+◌, ◌≤◌, Bool, true, false, not, ◌||◌, ◌==◌, cond, List, [], ◌∷◌, ◌++◌, length, drop, Option, Some, None, ℤ, pos, sym, ◌∙◌, ap, subst, refl, arith, inl, inr, ◌⊎◌, true≢false}
use Rattle.std.specs.Prelude.{nat_lt, neg_ℤ}
use Rattle.std.specs.Char.{digit_value}
use Rattle.std.proofs.lemmas.Bool.{cases_Bool, cond-true, cond-false, cond_both, not-false, or_parts, eqb-true}
use Rattle.std.proofs.lemmas.Bool.Decides.{nat_tests}
use Rattle.tcl_chars.specs.Arith.{fits}
use Rattle.tcl_chars.specs.Classes.{is_list_space}
use Rattle.tcl_chars.specs.Index.{has_space, to_sign}
use Rattle.tcl_chars.specs.Place.{tail}
use Rattle.tcl_chars.specs.Whole.{skip_space, is_only_space, sign_of, radix_of, digits_len, numeral, signed, magnitude, whole_of}
use Rattle.tcl_chars.specs.declared.numbers.Dialect.{Dialect}
use Rattle.tcl_chars.specs.declared.numbers.Whole.{Whole}
use Rattle.tcl_chars.specs.declared.numbers.Whole.TheVariants.{Number, TooLarge, Not}
use Rattle.tcl_chars.proofs.BeforeSigns.{IsSign, sign_test, digit_not_sign, to_sign_past, signless_parts, signless_more, radix_le, radix_signless}
use Rattle.tcl_chars.proofs.Figures.{no_digits, whole_is}
use Rattle.tcl_laws.specs.Indices.{AllSpace, Writes}
use Rattle.tcl_laws.specs.Indices.Writes.{plain, plus, minus}

-- ---- no sign stands in what is written without a sign

space_no_sign : (c : ℕ) → is_list_space c ≡ true → sign_test c ≡ false
space_no_sign c h = grind (arith, nat_tests)

only_space_signless : (cs : List ℕ) → is_only_space cs ≡ true → to_sign cs ≡ []
only_space_signless [] h = refl
only_space_signless (c ∷ cs) h = elim (cases_Bool (is_list_space c)) [
  | inl s ↦ signless_more c cs (space_no_sign c s) (only_space_signless cs (ap (λ t. length t == 0) (sym (cond-true _ _ _ s)) ∙ h))
  | inr n ↦ absurd (omega (arith, eqb-true (length (skip_space (c ∷ cs))) 0 h, ap length (cond-false (is_list_space c) (skip_space cs) (c ∷ cs) n)))
]

digits_signless : (radix : ℕ) (cs : List ℕ) → radix ≤ 16 → is_only_space (drop (digits_len radix cs) cs) ≡ true → to_sign cs ≡ []
digits_signless radix [] l h = refl
digits_signless radix (c ∷ cs) l h = elim (cases_Bool (nat_lt (digit_value c) radix)) [
  | inl d ↦
      let k : digits_len radix (c ∷ cs) ≡ 1 + digits_len radix cs = cond-true _ _ _ d in
      let e : digits_len radix (c ∷ cs) ≡ suc (digits_len radix cs) = omega (arith, k) in
      signless_more c cs (digit_not_sign c radix l d) (digits_signless radix cs l (subst (λ n. is_only_space (drop n (c ∷ cs)) ≡ true) e h))
  | inr n ↦ only_space_signless (c ∷ cs) (subst (λ n. is_only_space (drop n (c ∷ cs)) ≡ true) (cond-false _ _ _ n) h)
]

numeral_signless : (radix : ℕ) (cs : List ℕ) (n : ℕ) → radix ≤ 16 → numeral radix cs ≡ Some n → to_sign cs ≡ []
numeral_signless radix cs n l h =
    let k = digits_len radix cs in
    elim (cases_Bool (k == 0 || not (is_only_space (drop k cs)))) [
      | inl bad ↦ absurd (let e = sym (cond-true _ _ _ bad) ∙ h in cc)
      | inr good ↦ digits_signless radix cs l (not-false _ (or_parts (k == 0) (not (is_only_space (drop k cs))) good).1)
    ]

magnitude_signless : (dialect : Dialect) (cs : List ℕ) (n : ℕ) → magnitude dialect cs ≡ Some n → to_sign cs ≡ []
unfolding magnitude
magnitude_signless dialect cs n h = radix_signless dialect cs (numeral_signless (radix_of dialect cs).0 (radix_of dialect cs).1 n (radix_le dialect cs) h)

none_with_sign : (dialect : Dialect) (cs : List ℕ) (s : ℕ) (o : List ℕ) (m : Option ℕ) → IsSign s → to_sign cs ≡ [] → magnitude dialect (cs ++ s ∷ o) ≡ m → m ≡ None
none_with_sign dialect cs s o None i h e = refl
none_with_sign dialect cs s o (Some n) i h e = absurd (let k : s ∷ o ≡ [] = sym (to_sign_past cs s o i h) ∙ magnitude_signless dialect (cs ++ s ∷ o) n e in cc)

-- ---- nor does it begin with list space

not_empty : (dialect : Dialect) (n : ℕ) → magnitude dialect [] ≡ Some n → ⊥
unfolding magnitude
not_empty dialect n h = cc

radix_ten : (dialect : Dialect) (c : ℕ) (t : List ℕ) → (c == 48) ≡ false → radix_of dialect (c ∷ t) ≡ (10, c ∷ t)
radix_ten dialect c [] h = refl
radix_ten dialect c (d ∷ t) h = cond-false _ _ _ h

digit_no_space : (c : ℕ) → nat_lt (digit_value c) 10 ≡ true → is_list_space c ≡ false
digit_no_space c h = grind (arith, nat_tests)

first_no_space : (dialect : Dialect) (c : ℕ) (t : List ℕ) (n : ℕ) → magnitude dialect (c ∷ t) ≡ Some n → is_list_space c ≡ false
first_no_space dialect c t n h = elim (cases_Bool (c == 48)) [
  | inl is_zero ↦ ap is_list_space (eqb-true c 48 is_zero)
  | inr other ↦ elim (cases_Bool (nat_lt (digit_value c) 10)) [
    | inl d ↦ digit_no_space c d
    | inr none ↦
        let r = radix_ten dialect c t other in
        let e = no_digits dialect (c ∷ t) (c ∷ t) 10 0 (sym (ap (λ p. p.0) r)) (sym (ap (λ p. p.1) r)) (sym (cond-false _ _ _ none)) refl in
        absurd (let k : None ≡ Some n = sym e ∙ h in cc)
  ]
]

-- ---- a number is read as it is written

-- a number, where 64 bits hold it
abbrev pub sized : ℤ → Whole
sized z = cond (fits z) (Number z) TooLarge

unsigned_front : (c : ℕ) (t : List ℕ) → sign_test c ≡ false → sign_of (c ∷ t) ≡ (false, c ∷ t)
unsigned_front c t h = let k = or_parts (c == 43) (c == 45) h in cond-false _ _ _ k.1 ∙ cond-false _ _ _ k.0

past_spaces : (spaces rest : List ℕ) → AllSpace spaces → skip_space (spaces ++ rest) ≡ skip_space rest
past_spaces [] rest a = refl
past_spaces (c ∷ cs) rest a = cond-true _ _ _ a.0 ∙ past_spaces cs rest a.1

-- behind list space and a sign or none
read_as : (dialect : Dialect) (spaces rest digits : List ℕ) (negative : Bool) (m : Option ℕ) → AllSpace spaces → skip_space rest ≡ rest → sign_of rest ≡ (negative, digits) → magnitude dialect digits ≡ m
    → whole_of dialect (spaces ++ rest) ≡ signed negative m
read_as dialect spaces rest digits negative m a k e h =
    whole_is dialect (spaces ++ rest) rest digits negative (sym (past_spaces spaces rest a ∙ k)) (sym (ap (λ p. p.0) e)) (sym (ap (λ p. p.1) e)) ∙ ap (signed negative) h

minus_sized : (n : ℕ) → signed true (Some n) ≡ sized (neg_ℤ (pos n))
minus_sized zero = refl
minus_sized (suc n) = refl

pub written_read : (dialect : Dialect) (cs : List ℕ) (z : ℤ) → Writes dialect cs z → whole_of dialect cs ≡ sized z
written_read dialect _ _ (plain spaces [] n a m) = absurd (not_empty dialect n m)
written_read dialect _ _ (plain spaces (c ∷ t) n a m) =
    let sign = (signless_parts c t (magnitude_signless dialect (c ∷ t) n m)).0 in
    read_as dialect spaces (c ∷ t) (c ∷ t) false (Some n) a (cond-false _ _ _ (first_no_space dialect c t n m)) (unsigned_front c t sign) m
written_read dialect _ _ (plus spaces digits n a m) = read_as dialect spaces (43 ∷ digits) digits false (Some n) a refl refl m
written_read dialect _ _ (minus spaces digits n a m) = read_as dialect spaces (45 ∷ digits) digits true (Some n) a refl refl m ∙ minus_sized n

-- ---- what is read as a number is so written

abbrev WritesSome : Dialect → List ℕ → Type 0
WritesSome dialect cs = (z : ℤ) × Writes dialect cs z

spaces_cut : (cs : List ℕ) → (spaces : List ℕ) × AllSpace spaces × (cs ≡ spaces ++ skip_space cs)
spaces_cut [] = ([], tt, refl)
spaces_cut (c ∷ cs) = elim (cases_Bool (is_list_space c)) [
  | inl s ↦ let r = spaces_cut cs in (c ∷ r.0, (s, r.1), ap (λ t. c ∷ t) r.2 ∙ ap (λ t. c ∷ (r.0 ++ t)) (sym (cond-true _ _ _ s)))
  | inr n ↦ ([], tt, sym (cond-false _ _ _ n))
]

signed_some : (dialect : Dialect) (cs digits : List ℕ) (negative : Bool) (m : Option ℕ) → whole_of dialect cs ≡ signed negative m → magnitude dialect digits ≡ m → ((n : ℕ) → magnitude dialect digits ≡ Some n → WritesSome dialect cs)
    → (whole_of dialect cs ≡ Not) ⊎ WritesSome dialect cs
signed_some dialect cs digits true None e h k = inl e
signed_some dialect cs digits false None e h k = inl e
signed_some dialect cs digits negative (Some n) e h k = inr (k n h)

behind_spaces : (dialect : Dialect) (spaces rest : List ℕ) → AllSpace spaces → skip_space rest ≡ rest → (whole_of dialect (spaces ++ rest) ≡ Not) ⊎ WritesSome dialect (spaces ++ rest)
behind_spaces dialect spaces [] a k = signed_some dialect (spaces ++ []) [] false (magnitude dialect []) (read_as dialect spaces [] [] false (magnitude dialect []) a refl refl refl) refl (λ n m. absurd (not_empty dialect n m))
behind_spaces dialect spaces (c ∷ t) a k = elim (cases_Bool (c == 45)) [
  | inl is ↦
      let e : sign_of (c ∷ t) ≡ (true, t) = cond-true _ _ _ is in
      let f : 45 ≡ c = sym (eqb-true c 45 is) in
      signed_some dialect (spaces ++ c ∷ t) t true (magnitude dialect t) (read_as dialect spaces (c ∷ t) t true (magnitude dialect t) a k e refl) refl
      (λ n m. (neg_ℤ (pos n), subst (λ x. Writes dialect (spaces ++ x ∷ t) (neg_ℤ (pos n))) f (minus spaces t n a m)))
  | inr other ↦ elim (cases_Bool (c == 43)) [
    | inl is ↦
        let e : sign_of (c ∷ t) ≡ (false, t) = cond-false _ _ _ other ∙ cond-true _ _ _ is in
        let f : 43 ≡ c = sym (eqb-true c 43 is) in
        signed_some dialect (spaces ++ c ∷ t) t false (magnitude dialect t) (read_as dialect spaces (c ∷ t) t false (magnitude dialect t) a k e refl) refl
        (λ n m. (pos n, subst (λ x. Writes dialect (spaces ++ x ∷ t) (pos n)) f (plus spaces t n a m)))
    | inr none ↦
        let e : sign_of (c ∷ t) ≡ (false, c ∷ t) = cond-false _ _ _ other ∙ cond-false _ _ _ none in
        signed_some dialect (spaces ++ c ∷ t) (c ∷ t) false (magnitude dialect (c ∷ t)) (read_as dialect spaces (c ∷ t) (c ∷ t) false (magnitude dialect (c ∷ t)) a k e refl) refl
        (λ n m. (pos n, plain spaces (c ∷ t) n a m))
  ]
]

skip_again : (cs : List ℕ) → skip_space (skip_space cs) ≡ skip_space cs
skip_again [] = refl
skip_again (c ∷ cs) = cond_both (is_list_space c) (skip_space cs) (c ∷ cs) (λ t. skip_space t ≡ t) (λ _. skip_again cs) (λ n. cond-false _ _ _ n)

pub written_or_none : (dialect : Dialect) (cs : List ℕ) → (whole_of dialect cs ≡ Not) ⊎ WritesSome dialect cs
written_or_none dialect cs =
    let r = spaces_cut cs in
    subst (λ t. (whole_of dialect t ≡ Not) ⊎ WritesSome dialect t) (sym r.2) (behind_spaces dialect r.0 (skip_space cs) r.1 (skip_again cs))

-- ---- a sign behind a number without white space

no_space_first : (c : ℕ) (spaces rest : List ℕ) → AllSpace (c ∷ spaces) → has_space (c ∷ (spaces ++ rest)) ≡ false → ⊥
no_space_first c spaces rest a h = true≢false (sym a.0 ∙ (or_parts (is_list_space c) (has_space (spaces ++ rest)) h).0)

-- It is the first sign behind the first character, and with it the text is no number.
pub record SignBehind (dialect : Dialect) (cs : List ℕ) (s : ℕ) (o : List ℕ) : Type 0 where
  pub found : to_sign (tail (cs ++ s ∷ o)) ≡ s ∷ o
  pub other : whole_of dialect (cs ++ s ∷ o) ≡ Not

signed_behind : (dialect : Dialect) (digits : List ℕ) (sign n s : ℕ) (o : List ℕ) (negative : Bool) → IsSign s → magnitude dialect digits ≡ Some n → skip_space (sign ∷ (digits ++ s ∷ o)) ≡ sign ∷ (digits ++ s ∷ o)
    → sign_of (sign ∷ (digits ++ s ∷ o)) ≡ (negative, digits ++ s ∷ o) → signed negative None ≡ Not → SignBehind dialect (sign ∷ digits) s o
signed_behind dialect digits sign n s o negative i m k e none =
    let signless = magnitude_signless dialect digits n m in
    record {
      found = to_sign_past digits s o i signless;
      other =
          read_as dialect [] (sign ∷ (digits ++ s ∷ o)) (digits ++ s ∷ o) negative (magnitude dialect (digits ++ s ∷ o)) tt k e refl
          ∙ ap (signed negative) (none_with_sign dialect digits s o (magnitude dialect (digits ++ s ∷ o)) i signless refl) ∙ none;
    }

pub sign_behind : (dialect : Dialect) (cs : List ℕ) (z : ℤ) (s : ℕ) (o : List ℕ) → IsSign s → has_space cs ≡ false → Writes dialect cs z → SignBehind dialect cs s o
sign_behind dialect _ _ s o i h (plain (x ∷ spaces) digits n a m) = absurd (no_space_first x spaces digits a h)
sign_behind dialect _ _ s o i h (plain [] [] n a m) = absurd (not_empty dialect n m)
sign_behind dialect _ _ s o i h (plain [] (c ∷ t) n a m) =
    let k = signless_parts c t (magnitude_signless dialect (c ∷ t) n m) in
    let text = c ∷ (t ++ s ∷ o) in
    record {
      found = to_sign_past t s o i k.1;
      other =
          read_as dialect [] text text false (magnitude dialect text) tt (cond-false _ _ _ (first_no_space dialect c t n m)) (unsigned_front c (t ++ s ∷ o) k.0) refl
          ∙ ap (signed false) (none_with_sign dialect (c ∷ t) s o (magnitude dialect text) i (signless_more c t k.0 k.1) refl);
    }
sign_behind dialect _ _ s o i h (plus (x ∷ spaces) digits n a m) = absurd (no_space_first x spaces (43 ∷ digits) a h)
sign_behind dialect _ _ s o i h (plus [] digits n a m) = signed_behind dialect digits 43 n s o false i m refl refl refl
sign_behind dialect _ _ s o i h (minus (x ∷ spaces) digits n a m) = absurd (no_space_first x spaces (45 ∷ digits) a h)
sign_behind dialect _ _ s o i h (minus [] digits n a m) = signed_behind dialect digits 45 n s o true i m refl refl refl
