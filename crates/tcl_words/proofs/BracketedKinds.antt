-- What stands at the front before a `]`, and what is put together of it, where the text ends there.
use Rattle.std.proofs.Common.{◌≡◌, ℕ, suc, ◌<◌, ◌≤◌, Bool, true, false, cond, ◌==◌, List, [], ◌∷◌, length, Option, Some, None, Result, Ok, Err, refl, sym, ap, subst, ◌∙◌, arith, inl, inr, ◌⊎◌}
use Rattle.std.specs.Prelude.{IfOk, if◌then◌else◌}
use Rattle.std.proofs.lemmas.Bool.{cases_Bool, true≢false, eqb-true}
use Rattle.std.proofs.Math.Bool.{or-true}
use Rattle.tcl_chars.specs.Characters.{close_bracket}
use Rattle.tcl_chars.specs.Place.{begins, tail}
use Rattle.tcl_chars.specs.Reading.{◌>>=◌}
use Rattle.tcl_words.specs.declared.fault.Syntax.{Syntax}
use Rattle.tcl_words.specs.declared.front.Kind.TheVariants as kind
use Rattle.tcl_words.specs.declared.front.Mode.{Mode}
use Rattle.tcl_words.specs.declared.front.Mode.TheVariants as mode
use Rattle.tcl_words.specs.Parts.{Shape}
use Rattle.tcl_words.specs.Words.{after_blanks, ends_word, kind_of, is_plain, after_plain, closed, after_command, Inner, word_at, words_at}
use Rattle.tcl_words.proofs.BeforeInert.{inert_bracket, variable_before, kind_before}
use Rattle.tcl_words.proofs.Bracketed.{closed_by, behind, length_closed, ends_word_alone, Stays, CutScan}
use Rattle.tcl_words.proofs.BracketedTurns.{Cut}
use Rattle.tcl_chars.proofs.Ends.{ends_le, if_cond}
use Rattle.tcl_words.proofs.Forward.{plain_end}
use Rattle.tcl_words.proofs.Longer.{same_cond}

pub tail_le : (cs : List ℕ) → length (tail cs) ≤ length cs
tail_le [] = omega arith
tail_le (c ∷ cs) = omega arith

pub tail_lt : (cs : List ℕ) (n : ℕ) → suc n ≤ length (tail cs) → suc n < length cs
tail_lt [] n h = absurd (omega arith)
tail_lt (c ∷ cs) n h = omega arith

-- ---- pieces

-- A word that is bare, and read alone with `]` as a plain character, doesn't stop at a `]` before the bracket's own.
abbrev pub Clear : Bool → List ℕ → List ℕ → Type 0
Clear b y rest = b ≡ false → begins close_bracket rest ≡ true → length rest ≤ behind y

abbrev pub Fine : Bool → Mode → List ℕ → List ℕ → Type 0
Fine b (mode.Bare nested) y rest = Clear b y rest
Fine b mode.Quoted y rest = Unit {0}
Fine b mode.Index y rest = Unit {0}

pub no_bracket : (b : Bool) (c : ℕ) (t y : List ℕ) → Clear b y (closed_by (c ∷ t) y) → b ≡ false → (c == close_bracket) ≡ false
no_bracket b c t y h off =
    elim (cases_Bool (c == close_bracket)) [
      | inl here ↦ absurd (omega (arith, h off here, length_closed t y))
      | inr other ↦ other
    ]

pub kind_bare : (b : Bool) (c : ℕ) (t y : List ℕ) → (b ≡ false → (c == close_bracket) ≡ false) → kind_of (mode.Bare true) (closed_by (c ∷ t) y) ≡ kind_of (mode.Bare b) (c ∷ t)
unfolding kind_of
kind_bare b c t y h = rw (ends_word_alone c t y b h, variable_before t 93 y inert_bracket) refl

pub kind_at_bracket : (c : ℕ) (rest : List ℕ) → (c == close_bracket) ≡ true → kind_of (mode.Bare true) (c ∷ rest) ≡ kind.Ends
unfolding kind_of
kind_at_bracket c rest here = rw (here, or-true) refl

pub at_bracket : (b : Bool) (c : ℕ) (t y : List ℕ) → (c == close_bracket) ≡ true → Clear b y (c ∷ closed_by t y) → Stays y (c ∷ closed_by t y) (after_plain (mode.Bare b) (c ∷ t))
unfolding after_plain
at_bracket true c t y here h = rw (kind_at_bracket c t here) (λ k. refl)
at_bracket false c t y here h = absurd (omega (arith, h refl here, length_closed t y))

pub plain_bare : (b : Bool) (t y : List ℕ) → Clear b y (after_plain (mode.Bare true) (closed_by t y)) → Stays y (after_plain (mode.Bare true) (closed_by t y)) (after_plain (mode.Bare b) t)
unfolding after_plain kind_of
plain_bare b [] y = λ h k. refl
plain_bare b (c ∷ t) y = elim (cases_Bool (c == close_bracket)) [
  | inl here ↦ rw (kind_at_bracket c (closed_by t y) here) (at_bracket b c t y here)
  | inr other ↦ rw (kind_bare b c t y (λ e. other)) (same_cond (λ x u. Clear b y x → Stays y x u) (is_plain (kind_of (mode.Bare b) (c ∷ t))) _ _ _ _ (plain_bare b t y) (λ h k. refl))
]

pub plain_same : (m : Mode) → ((y : List ℕ) → kind_of m (close_bracket ∷ y) ≡ kind.Plain) → (t y : List ℕ) → Stays y (after_plain m (closed_by t y)) (after_plain m t)
unfolding after_plain
plain_same m at [] y = rw (at y) (λ h. absurd (omega (arith, ends_le y _ (plain_end m y))))
plain_same m at (c ∷ t) y = rw (kind_before m c t 93 y inert_bracket) (same_cond (Stays y) (is_plain (kind_of m (c ∷ t))) _ _ _ _ (plain_same m at t y) (λ h. refl))

pub taken : {A : Type 0} (b : Bool) (m : Syntax) (x p : A) → cond b (Ok x) (Err m) ≡ Ok p → (b ≡ true) × (x ≡ p)
taken true m x p e = (refl, cc)
taken false m x p e = absurd cc

pub was_closed : (m : Syntax) (b : Bool) (w : Shape) (rest : List ℕ) (p : Shape × List ℕ) → closed m b w rest ≡ Ok p → (ends_word b rest ≡ true) × ((w, rest) ≡ p)
was_closed m b w rest p e = taken (ends_word b rest) m (w, rest) p e

pub closed_is_le : (m : Syntax) (nested : Bool) (w : Shape) (rest : List ℕ) → IfOk (closed m nested w rest) (λ p. length p.1 ≤ length rest)
closed_is_le m nested w rest = if_cond (λ r. IfOk r (λ p. length p.1 ≤ length rest)) (ends_word nested rest) (Ok (w, rest)) (Err m) (omega arith) tt

abbrev pub shape_rest : List ℕ → Result (Shape × List ℕ) Syntax → List ℕ
shape_rest d (Ok p) = p.1
shape_rest d (Err m) = d

abbrev pub word_rest : List ℕ → Result (Option Shape × List ℕ) Syntax → List ℕ
word_rest d (Ok p) = p.1
word_rest d (Err m) = d

pub ends_at_bracket : (c : ℕ) (rest : List ℕ) → (c == close_bracket) ≡ true → ends_word true (c ∷ rest) ≡ true
ends_at_bracket c rest here = rw (here, or-true) refl

-- the next word, behind the blanks
abbrev pub word_from : ℕ → Inner → Bool → List ℕ → Result (Option Shape × List ℕ) Syntax
word_from size inner nested rest = if ends_word nested rest then Ok (None, rest) else (word_at size inner nested rest >>= λ word. Ok (Some word.0, word.1))

pub is_bracket : (c : ℕ) → (c == close_bracket) ≡ true → c ≡ 93
is_bracket c e = eqb-true c 93 e

pub bracket_or_clear : (b : Bool) (y rest : List ℕ) → Clear b y rest ⊎ ((r : List ℕ) × (rest ≡ 93 ∷ r))
bracket_or_clear b y [] = inl (λ off e. absurd cc)
bracket_or_clear b y (c ∷ r) = elim (cases_Bool (c == close_bracket)) [
  | inl here ↦ inr (r, ap (λ (x : ℕ). x ∷ r) (is_bracket c here))
  | inr other ↦ inl (λ off here. absurd (true≢false (sym here ∙ other)))
]

pub no_blanks_at : (r : List ℕ) → after_blanks (93 ∷ r) ≡ 93 ∷ r
unfolding after_blanks
no_blanks_at [] = refl
no_blanks_at (d ∷ r) = refl

-- the command behind the separators
abbrev pub command_from : ℕ → Inner → Bool → List ℕ → Result (Option (List Shape) × List ℕ) Syntax
command_from size inner nested rest = if ends_word nested rest then Ok (None, rest) else (words_at size inner nested rest >>= λ words. Ok (Some words.0, after_command words.1))

abbrev pub command_rest : List ℕ → Result (Option (List Shape) × List ℕ) Syntax → List ℕ
command_rest d (Ok p) = p.1
command_rest d (Err m) = d

pub command_clear : (b : Bool) (y rest : List ℕ) → Clear b y (after_command rest) → Clear b y rest
command_clear b y rest h off here = let same : after_command rest ≡ rest = rw here refl in subst (λ (x : List ℕ). length x ≤ behind y) same (h off (rw same here))

pub command_alone : (s y : List ℕ) → behind y ≤ length (after_command (closed_by s y)) → after_command (closed_by s y) ≡ closed_by (after_command s) y
command_alone [] y h = refl
command_alone (c ∷ u) y h = same_cond (λ x v. x ≡ closed_by v y) (c == close_bracket) _ _ _ _ refl refl

pub scan_of : {A : Type 0} (y : List ℕ) (r alone : Result (List A × List ℕ) Syntax) → Cut y (Clear true y) r alone → CutScan y (r >>= λ found. Ok found.1) (alone >>= λ found. Ok found.1)
scan_of y (Err m) alone h = tt
scan_of y (Ok p) alone h = λ big. let (s, e1, e2) = h (omega (arith, big)) (λ off. absurd (true≢false off)) in (s, e1, ap (λ (r : Result _ Syntax). r >>= λ found. Ok found.1) e2)
