-- How much an escape takes: a character at least, no more than there is, and the same where something stands behind that
-- no escape goes on with.
use Rattle.std.proofs.Common.{◌≡◌, ℕ, zero, suc, ◌+◌, ◌<◌, ◌≤◌, Bool, true, false, cond, ◌==◌, List, [], ◌∷◌, ◌++◌, length, length-append, take, Option, Some, None, ap, ◌∙◌, refl, arith, inl, inr}
use Rattle.std.specs.Prelude.{nat_le, nat_lt}
use Rattle.std.specs.Char.{digit_value}
use Rattle.std.specs.Str.Parse.{digits_value}
use Rattle.std.proofs.lemmas.Bool.{cases_Bool, and_parts, and_right, leb-true, leb-false, le-leb}
use Rattle.std.proofs.lemmas.List.{take-append-le}
use Rattle.tcl_chars.specs.Classes.{is_blank}
use Rattle.tcl_chars.specs.Escape.{escape, escape_of, by_control, by_code_form, control_of, code_form, coded, octal_or_self, is_run, all_digits, longest_run, blanks}
use Rattle.tcl_chars.proofs.Ends.{if_cond}

-- ---- no more than there is

pub longest_in : (radix limit : ℕ) (t : List ℕ) (most : ℕ) → longest_run radix limit t most ≤ length t
unfolding longest_run
longest_in radix limit t zero = omega arith
longest_in radix limit t (suc n) = elim (cases_Bool (is_run radix limit t (suc n))) [
  | inl here ↦ rw here (leb-true (suc n) (length t) (and_parts _ _ here).0)
  | inr other ↦ rw other (longest_in radix limit t n)
]

pub blanks_in : (t : List ℕ) → blanks t ≤ length t
blanks_in [] = omega arith
blanks_in (c ∷ t) = elim (is_blank c) as (λ b. cond b (suc (blanks t)) 0 ≤ suc (length t)) [ true ↦ omega (arith, blanks_in t) | false ↦ omega arith ]

-- ---- at least a character

octal_takes : (c : ℕ) (cs : List ℕ) → 1 ≤ (octal_or_self c cs).1
octal_takes c cs = if_cond (λ (p : ℕ × ℕ). 1 ≤ p.1) (longest_run 8 255 (c ∷ cs) 3 == 0) _ _ (omega arith) (omega arith)

by_code_takes : (c : ℕ) (cs : List ℕ) (f : Option (ℕ × ℕ)) → 1 ≤ (by_code_form c cs f).1
by_code_takes c cs (Some f) = omega arith
by_code_takes c cs None = if_cond (λ (p : ℕ × ℕ). 1 ≤ p.1) (c == 10) _ _ (omega arith) (octal_takes c cs)

by_control_takes : (c : ℕ) (cs : List ℕ) (x : Option ℕ) → 1 ≤ (by_control c cs x).1
by_control_takes c cs (Some x) = omega arith
by_control_takes c cs None = by_code_takes c cs (code_form c)

pub escape_takes : (c : ℕ) (cs : List ℕ) → 1 ≤ (escape (c ∷ cs)).1
unfolding escape_of
escape_takes c [] = omega arith
escape_takes c (d ∷ cs) = by_control_takes d cs (control_of d)

-- ---- before a character that no escape goes on with

pub record StopsEscapes (d : ℕ) : Type 0 where
  pub no_octal : nat_lt (digit_value d) 8 ≡ false
  pub no_digit : nat_lt (digit_value d) 16 ≡ false
  pub no_blank : is_blank d ≡ false

digits_past : (radix : ℕ) (t : List ℕ) (d : ℕ) (y : List ℕ) (n : ℕ) → nat_lt (digit_value d) radix ≡ false → length t < n → all_digits radix (take n (t ++ d ∷ y)) ≡ false
digits_past radix t d y zero h l = absurd (omega arith)
digits_past radix [] d y (suc n) h l = rw h refl
digits_past radix (c ∷ t) d y (suc n) h l = and_right (nat_lt (digit_value c) radix) _ (digits_past radix t d y n h (omega arith))

run_before : (radix limit : ℕ) (t : List ℕ) (d : ℕ) (y : List ℕ) (n : ℕ) → nat_lt (digit_value d) radix ≡ false → is_run radix limit (t ++ d ∷ y) n ≡ is_run radix limit t n
run_before radix limit t d y n h = elim (cases_Bool (nat_le n (length t))) [
  | inl short ↦
      let le : n ≤ length t = leb-true n (length t) short in
      let more : nat_le n (length (t ++ d ∷ y)) ≡ true = le-leb n _ (omega (arith, le, length-append t (d ∷ y))) in
      rw (more, short, take-append-le n t (d ∷ y) le) refl
  | inr long ↦ rw (long, digits_past radix t d y n h (leb-false n (length t) long)) (and_right (nat_le n (length (t ++ d ∷ y))) false refl)
]

pub longest_before : (radix limit : ℕ) (t : List ℕ) (d : ℕ) (y : List ℕ) (most : ℕ) → nat_lt (digit_value d) radix ≡ false → longest_run radix limit (t ++ d ∷ y) most ≡ longest_run radix limit t most
unfolding longest_run
longest_before radix limit t d y zero h = refl
longest_before radix limit t d y (suc n) h = rw (run_before radix limit t d y (suc n) h, longest_before radix limit t d y n h) refl

pub blanks_before : (t : List ℕ) (d : ℕ) (y : List ℕ) → is_blank d ≡ false → blanks (t ++ d ∷ y) ≡ blanks t
blanks_before [] d y h = rw h refl
blanks_before (c ∷ t) d y h = rw (blanks_before t d y h) refl

-- p is what an escape stands for and takes with something behind it, q without; n characters are there
pub record IsSame (p q : ℕ × ℕ) (n : ℕ) : Type 0 where
  pub same : p ≡ q
  pub inside : q.1 ≤ n

coded_before : (c limit most : ℕ) (t : List ℕ) (d : ℕ) (y : List ℕ) → StopsEscapes d
    → IsSame (coded c (t ++ d ∷ y) (longest_run 16 limit (t ++ d ∷ y) most), longest_run 16 limit (t ++ d ∷ y) most + 2) (coded c t (longest_run 16 limit t most), longest_run 16 limit t most + 2) (length t + 2)
coded_before c limit most t d y h =
    let n = longest_run 16 limit t most in
    let le : n ≤ length t = longest_in 16 limit t most in
    record { same = rw (longest_before 16 limit t d y most h.no_digit, take-append-le n t (d ∷ y) le) refl; inside = omega arith }

octal_before : (c : ℕ) (t : List ℕ) (d : ℕ) (y : List ℕ) → StopsEscapes d → IsSame (octal_or_self c (t ++ d ∷ y)) (octal_or_self c t) (length t + 2)
octal_before c t d y h =
    let n = longest_run 8 255 (c ∷ t) 3 in
    let le : n ≤ suc (length t) = longest_in 8 255 (c ∷ t) 3 in
    let e : longest_run 8 255 (c ∷ (t ++ d ∷ y)) 3 ≡ n = longest_before 8 255 (c ∷ t) d y 3 h.no_octal in
    let f : take n (c ∷ (t ++ d ∷ y)) ≡ take n (c ∷ t) = take-append-le n (c ∷ t) (d ∷ y) le in
    record {
      same = ap (λ k. cond (k == 0) (c, 2) (digits_value 8 (take k (c ∷ (t ++ d ∷ y))), k + 1)) e ∙ ap (λ ds. cond (n == 0) (c, 2) (digits_value 8 ds, n + 1)) f;
      inside = if_cond (λ (p : ℕ × ℕ). p.1 ≤ length t + 2) (n == 0) (c, 2) (digits_value 8 (take n (c ∷ t)), n + 1) (omega arith) (omega arith);
    }

newline_before : (b : Bool) (c : ℕ) (t : List ℕ) (d : ℕ) (y : List ℕ) → StopsEscapes d → IsSame (cond b (32, blanks (t ++ d ∷ y) + 2) (octal_or_self c (t ++ d ∷ y))) (cond b (32, blanks t + 2) (octal_or_self c t)) (length t + 2)
newline_before true c t d y h = record { same = rw (blanks_before t d y h.no_blank) refl; inside = omega (arith, blanks_in t) }
newline_before false c t d y h = octal_before c t d y h

code_before : (c : ℕ) (f : Option (ℕ × ℕ)) (t : List ℕ) (d : ℕ) (y : List ℕ) → StopsEscapes d → IsSame (by_code_form c (t ++ d ∷ y) f) (by_code_form c t f) (length t + 2)
code_before c (Some f) t d y h = coded_before c f.1 f.0 t d y h
code_before c None t d y h = newline_before (c == 10) c t d y h

control_before : (c : ℕ) (x : Option ℕ) (t : List ℕ) (d : ℕ) (y : List ℕ) → StopsEscapes d → IsSame (by_control c (t ++ d ∷ y) x) (by_control c t x) (length t + 2)
control_before c (Some x) t d y h = record { same = refl; inside = omega arith }
control_before c None t d y h = code_before c (code_form c) t d y h

-- An escape that a character follows before the end stands for the same and takes as much.
pub escape_before : (b c : ℕ) (t : List ℕ) (d : ℕ) (y : List ℕ) → StopsEscapes d → IsSame (escape (b ∷ c ∷ (t ++ d ∷ y))) (escape (b ∷ c ∷ t)) (length t + 2)
unfolding escape_of
escape_before b c t d y h = control_before c (control_of c) t d y h

-- A backslash directly before such a character takes it.
pub escape_takes_next : (b d : ℕ) (y : List ℕ) → StopsEscapes d → control_of d ≡ None → code_form d ≡ None → (d == 10) ≡ false → escape (b ∷ d ∷ y) ≡ (d, 2)
unfolding escape_of
escape_takes_next b d y h no_control no_code no_newline =
    let none : longest_run 8 255 [] 3 ≡ 0 = omega (arith, longest_in 8 255 [] 3) in
    rw (no_control, no_code, no_newline, longest_before 8 255 [] d y 3 h.no_octal, none) refl
