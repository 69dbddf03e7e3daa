-- A backslash and what it takes are the same where the text goes on, if something is left behind.
use Rattle.std.proofs.Common.{◌≡◌, ℕ, zero, suc, ◌+◌, ◌<◌, ◌≤◌, Bool, true, false, cond, ◌==◌, List, [], ◌∷◌, ◌++◌, length, take, drop, Option, Some, None, refl, sym, ap, ◌∙◌, arith, inl, inr, length-append}
use Rattle.std.specs.Prelude.{nat_le, nat_lt}
use Rattle.std.specs.Char.{digit_value}
use Rattle.std.specs.Str.Parse.{digits_value}
use Rattle.std.proofs.lemmas.Bool.{cases_Bool, and_parts, leb-true, le-leb, true≢false, cases_lt, eqb-true}
use Rattle.std.proofs.lemmas.List.{take-append-le, drop-append-le, take-take}
use Rattle.std.proofs.lemmas.Str.Parse.{digits_value-take-le}
use Rattle.tcl_chars.specs.Classes.{is_blank}
use Rattle.tcl_chars.specs.Escape.{escape, escape_of, by_control, by_code_form, control_of, code_form, octal_or_self, is_run, all_digits, longest_run, blanks}
use Rattle.tcl_words.proofs.Longer.{some}

digits_shorter : (radix : ℕ) (cs : List ℕ) (m n : ℕ) → m ≤ n → all_digits radix (take n cs) ≡ true → all_digits radix (take m cs) ≡ true
digits_shorter radix cs zero n le h = refl
digits_shorter radix cs (suc m) zero le h = absurd (omega arith)
digits_shorter radix [] (suc m) (suc n) le h = refl
digits_shorter radix (c ∷ cs) (suc m) (suc n) le h =
    let (here, more) = and_parts (nat_lt (digit_value c) radix) (all_digits radix (take n cs)) h in
    rw (here, digits_shorter radix cs m n (omega arith) more) refl

-- a shorter front of a run is a run
run_shorter : (radix limit : ℕ) (cs : List ℕ) (m n : ℕ) → 1 ≤ radix → m ≤ n → is_run radix limit cs n ≡ true → is_run radix limit cs m ≡ true
run_shorter radix limit cs m n one le h =
    let (inside, more) = and_parts (nat_le n (length cs)) _ h in
    let (digits, small) = and_parts (all_digits radix (take n cs)) _ more in
    let n_in : n ≤ length cs = leb-true n (length cs) inside in
    let value : digits_value radix (take n cs) ≤ limit = leb-true _ limit small in
    let v : digits_value radix (take m (take n cs)) ≤ digits_value radix (take n cs) = digits_value-take-le radix (take n cs) m one in
    let w : digits_value radix (take m cs) ≤ digits_value radix (take n cs) = rw (take-take m n cs le) at v in
    rw (le-leb m (length cs) (omega arith), digits_shorter radix cs m n le digits, le-leb (digits_value radix (take m cs)) limit (omega (arith, w, value))) refl

run_longer : (radix limit : ℕ) (t y : List ℕ) (n : ℕ) → n ≤ length t → is_run radix limit (t ++ y) n ≡ is_run radix limit t n
run_longer radix limit t y n le = rw (take-append-le n t y le, le-leb n (length t) le, le-leb n (length (t ++ y)) (omega (arith, length-append t y))) refl

-- a run is no longer than the longest
longest_most : (radix limit : ℕ) (cs : List ℕ) (most n : ℕ) → n ≤ most → is_run radix limit cs n ≡ true → n ≤ longest_run radix limit cs most
unfolding longest_run
longest_most radix limit cs zero n le h = omega arith
longest_most radix limit cs (suc most) n le h = elim (cases_Bool (is_run radix limit cs (suc most))) [
  | inl here ↦ rw here le
  | inr other ↦ rw other (elim (cases_lt n (suc most)) [
    | inl less ↦ longest_most radix limit cs most n (omega arith) h
    | inr more ↦ let e : n ≡ suc most = omega arith in absurd (true≢false (sym h ∙ ap (is_run radix limit cs) e ∙ other))
  ])
]

-- a longer run of the longer text would have a shorter one in the text
no_run : (radix limit : ℕ) (t y : List ℕ) (n : ℕ) → 1 ≤ radix → length t < suc n → longest_run radix limit t n < length t → is_run radix limit (t ++ y) (suc n) ≡ false
no_run radix limit t y n one past h = elim (cases_Bool (is_run radix limit (t ++ y) (suc n))) [
  | inr none ↦ none
  | inl there ↦
      let k = longest_run radix limit t n in
      let shorter : is_run radix limit (t ++ y) (suc k) ≡ true = run_shorter radix limit (t ++ y) (suc k) (suc n) one (omega arith) there in
      let inside : is_run radix limit t (suc k) ≡ true = sym (run_longer radix limit t y (suc k) (omega arith)) ∙ shorter in
      let le : suc k ≤ k = longest_most radix limit t n (suc k) (omega arith) inside in
      absurd (omega arith)
]

longest_longer : (radix limit : ℕ) (t y : List ℕ) (most : ℕ) → 1 ≤ radix → longest_run radix limit t most < length t → longest_run radix limit (t ++ y) most ≡ longest_run radix limit t most
unfolding longest_run
longest_longer radix limit t y zero one h = refl
longest_longer radix limit t y (suc n) one h = elim (cases_Bool (is_run radix limit t (suc n))) [
  | inl here ↦
      let inside : suc n < length t = rw here at h in
      rw (run_longer radix limit t y (suc n) (omega arith), here) refl
  | inr other ↦
      let less : longest_run radix limit t n < length t = rw other at h in
      elim (cases_lt (length t) (suc n)) [
        | inr inside ↦ rw (run_longer radix limit t y (suc n) inside, other) (longest_longer radix limit t y n one less)
        | inl past ↦ rw (no_run radix limit t y n one past less, other) (longest_longer radix limit t y n one less)
      ]
]

blanks_longer : (t y : List ℕ) → blanks t < length t → blanks (t ++ y) ≡ blanks t
blanks_longer [] y h = absurd (omega arith)
blanks_longer (c ∷ t) y h = elim (cases_Bool (is_blank c)) [
  | inl here ↦ let less : suc (blanks t) < suc (length t) = rw here at h in rw (here, blanks_longer t y (omega arith)) refl
  | inr other ↦ rw other refl
]

octal_longer : (c : ℕ) (t y : List ℕ) → (octal_or_self c t).1 ≤ suc (length t) → (octal_or_self c (t ++ y)).1 ≡ (octal_or_self c t).1
octal_longer c t y h = elim (cases_Bool (longest_run 8 255 (c ∷ t) 3 == 0)) [
  | inl none ↦
      let zero_ : longest_run 8 255 (c ∷ t) 3 ≡ 0 = eqb-true _ 0 none in
      rw (longest_longer 8 255 (c ∷ t) y 3 (omega arith) (omega arith), none) refl
  | inr more ↦
      let le : longest_run 8 255 (c ∷ t) 3 + 1 ≤ suc (length t) = rw more at h in
      rw (longest_longer 8 255 (c ∷ t) y 3 (omega arith) (omega arith), more) refl
]

newline_longer : (b : Bool) (c : ℕ) (t y : List ℕ) → (cond b (32, blanks t + 2) (octal_or_self c t)).1 ≤ suc (length t) → (cond b (32, blanks (t ++ y) + 2) (octal_or_self c (t ++ y))).1 ≡ (cond b (32, blanks t + 2) (octal_or_self c t)).1
newline_longer true c t y h = rw (blanks_longer t y (omega arith)) refl
newline_longer false c t y h = octal_longer c t y h

code_longer : (c : ℕ) (f : Option (ℕ × ℕ)) (t y : List ℕ) → (by_code_form c t f).1 ≤ suc (length t) → (by_code_form c (t ++ y) f).1 ≡ (by_code_form c t f).1
code_longer c (Some f) t y h = rw (longest_longer 16 f.1 t y f.0 (omega arith) (omega arith)) refl
code_longer c None t y h = newline_longer (c == 10) c t y h

control_longer : (c : ℕ) (x : Option ℕ) (t y : List ℕ) → (by_control c t x).1 ≤ suc (length t) → (by_control c (t ++ y) x).1 ≡ (by_control c t x).1
control_longer c (Some x) t y h = refl
control_longer c None t y h = code_longer c (code_form c) t y h

some_drop : (k : ℕ) (cs : List ℕ) → some (drop k cs) ≡ true → k < length cs
some_drop zero [] h = absurd cc
some_drop zero (c ∷ cs) h = omega arith
some_drop (suc k) [] h = absurd cc
some_drop (suc k) (c ∷ cs) h = let less = some_drop k cs h in omega arith

pub escape_longer : (b : ℕ) (t y : List ℕ) → some (drop (escape (b ∷ t)).1 (b ∷ t)) ≡ true → drop (escape (b ∷ (t ++ y))).1 (b ∷ (t ++ y)) ≡ drop (escape (b ∷ t)).1 (b ∷ t) ++ y
unfolding escape_of
escape_longer b [] y h = absurd cc
escape_longer b (c ∷ t) y h =
    let k = (by_control c t (control_of c)).1 in
    let less : k < suc (suc (length t)) = some_drop k (b ∷ c ∷ t) h in
    ap (λ n. drop n (b ∷ c ∷ (t ++ y))) (control_longer c (control_of c) t y (omega arith)) ∙ drop-append-le k (b ∷ c ∷ t) y (omega arith)
