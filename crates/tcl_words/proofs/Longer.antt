-- What is looked at and scanned is the same where the text goes on, if enough of it is left.
use Rattle.std.proofs.Common.{◌≡◌, ℕ, ◌+◌, ◌-◌, Bool, true, false, cond, not, ◌&&◌, ◌||◌, ◌==◌, List, [], ◌∷◌, ◌++◌, Result, Ok, Err, refl, sym, ◌∙◌, inl, inr}
use Rattle.std.proofs.lemmas.Bool.{cases_Bool}
use Rattle.std.proofs.Math.Bool.{or-true}
use Rattle.tcl_chars.specs.Characters.{newline, backslash, semicolon, number_sign, colon, open_brace, close_brace}
use Rattle.tcl_chars.specs.Classes.{is_word_space, is_name_char}
use Rattle.tcl_words.specs.declared.blanks.Gap.{Gap}
use Rattle.tcl_words.specs.declared.blanks.Gap.TheVariants as gap
use Rattle.tcl_words.specs.declared.fault.Syntax.{Syntax}
use Rattle.tcl_words.specs.Complete.{is_open}
pub use Rattle.tcl_words.specs.Waiting.{has_more as some, is_firm as firm}
use Rattle.tcl_words.specs.Words.{after_blanks, after_gaps, ends_word, after_name, at_variable_brace, at_brace}
use Rattle.tcl_chars.proofs.Ends.{if_cond}

pub same_cond : {A : Type 0} (P : A → A → Type 0) (b : Bool) (x y u v : A) → P x u → P y v → P (cond b x y) (cond b u v)
same_cond P true x y u v h k = h
same_cond P false x y u v h k = k

-- a rest that is firm has what follows behind it
abbrev pub Firm : List ℕ → List ℕ → List ℕ → Type 0
Firm y rest long = firm rest ≡ true → long ≡ rest ++ y

pub not_colon : (c : ℕ) → firm (c ∷ []) ≡ true → (c == colon) ≡ false
not_colon c h = elim (cases_Bool (c == colon)) [
  | inl here ↦ absurd (let e : not (true || c == backslash) ≡ true = rw here at h in cc)
  | inr other ↦ other
]

pub not_backslash : (c : ℕ) → firm (c ∷ []) ≡ true → (c == backslash) ≡ false
not_backslash c h = elim (cases_Bool (c == backslash)) [
  | inl here ↦ absurd (let e : not (c == colon || true) ≡ true = rw here at h in let f : not true ≡ true = rw (or-true (c == colon)) at e in cc)
  | inr other ↦ other
]

-- a choice between nothing and one character, each firm
pub at_one : (b : Bool) (y : List ℕ) (c : ℕ) (long : List ℕ) → (firm (c ∷ []) ≡ true → b ≡ false → long ≡ c ∷ y) → Firm y (cond b [] (c ∷ [])) long
at_one true y c long h = λ k. absurd cc
at_one false y c long h = λ k. h k refl

pub name_longer : (f : Bool) (t y : List ℕ) → Firm y (after_name f t) (after_name f (t ++ y))
unfolding after_name
name_longer f [] y = λ h. absurd cc
name_longer f (c ∷ []) y = elim (cases_Bool (is_name_char c)) [
  | inl named ↦ rw named (λ h. absurd cc)
  | inr other ↦ rw other (at_one (c == colon && (f || false)) y c _ (λ h e. rw (not_colon c h) refl))
]
name_longer f (c ∷ d ∷ t) y =
    same_cond (λ r long. Firm y r long) (is_name_char c) _ _ _ _ (name_longer false (d ∷ t) y)
    (same_cond (λ r long. Firm y r long) (c == colon && (f || d == colon)) _ _ _ _ (name_longer true (d ∷ t) y) (λ h. refl))

pub blanks_longer : (t y : List ℕ) → Firm y (after_blanks t) (after_blanks (t ++ y))
unfolding after_blanks
blanks_longer [] y = λ h. absurd cc
blanks_longer (c ∷ []) [] = at_one (is_word_space c) [] c _ (λ h e. rw e refl)
blanks_longer (c ∷ []) (d ∷ y) = at_one (is_word_space c) (d ∷ y) c _ (λ h e. rw (e, not_backslash c h) refl)
blanks_longer (c ∷ d ∷ t) y =
    same_cond (λ r long. Firm y r long) (is_word_space c) _ _ _ _ (blanks_longer (d ∷ t) y)
    (same_cond (λ r long. Firm y r long) (c == backslash && d == newline) _ _ _ _ (blanks_longer t y) (λ h. refl))

gaps_one : (c : ℕ) (y : List ℕ) → Firm y (after_gaps gap.Between (c ∷ [])) (after_gaps gap.Between (c ∷ y))
unfolding after_gaps
gaps_one c y = elim (cases_Bool (c == backslash)) [
  | inl here ↦
      if_cond (λ r. Firm y r (after_gaps gap.Between (c ∷ y))) (is_word_space c || c == newline || c == semicolon || (c == backslash && false)) _ _ (λ h. absurd cc)
      (if_cond (λ r. Firm y r (after_gaps gap.Between (c ∷ y))) (c == number_sign) _ _ (λ h. absurd cc) (λ h. absurd (let e : true ≡ false = sym here ∙ not_backslash c h in cc)))
  | inr other ↦ rw other
      (same_cond (λ r long. Firm y r long) (is_word_space c || c == newline || c == semicolon || false) _ _ _ _ (λ h. absurd cc)
      (same_cond (λ r long. Firm y r long) (c == number_sign) _ _ _ _ (λ h. absurd cc) (λ h. refl)))
]

pub gaps_longer : (g : Gap) (t y : List ℕ) → Firm y (after_gaps g t) (after_gaps g (t ++ y))
unfolding after_gaps
gaps_longer g [] y = λ h. absurd cc
gaps_longer gap.Between (c ∷ []) y = gaps_one c y
gaps_longer gap.Between (c ∷ d ∷ t) y =
    same_cond (λ r long. Firm y r long) (is_word_space c || c == newline || c == semicolon || (c == backslash && d == newline)) _ _ _ _ (gaps_longer gap.Between (d ∷ t) y)
    (same_cond (λ r long. Firm y r long) (c == number_sign) _ _ _ _ (gaps_longer (gap.Comment false) (d ∷ t) y) (λ h. refl))
gaps_longer (gap.Comment hidden) (c ∷ t) y =
    same_cond (λ r long. Firm y r long) hidden _ _ _ _ (gaps_longer (gap.Comment false) t y)
    (same_cond (λ r long. Firm y r long) (c == newline) _ _ _ _ (gaps_longer gap.Between t y) (gaps_longer (gap.Comment (c == backslash)) t y))

pub ends_longer : (nested : Bool) (t y : List ℕ) → firm t ≡ true → ends_word nested (t ++ y) ≡ ends_word nested t
ends_longer nested [] y h = absurd cc
ends_longer nested (c ∷ []) y h = rw (not_backslash c h) refl
ends_longer nested (c ∷ d ∷ t) y h = refl

-- ---- scans for a character that closes

abbrev pub Scanned : List ℕ → Result (List ℕ) Syntax → Result (List ℕ) Syntax → Type 0
Scanned y (Ok rest) long = (some rest ≡ true) × (long ≡ Ok (rest ++ y))
Scanned y (Err m) long = is_open m ≡ true

pub variable_brace_longer : (t y : List ℕ) → Scanned y (at_variable_brace t) (at_variable_brace (t ++ y))
unfolding at_variable_brace
variable_brace_longer [] y = refl
variable_brace_longer (c ∷ t) y = same_cond (λ r long. Scanned y r long) (c == close_brace) _ _ _ _ (refl, refl) (variable_brace_longer t y)

pub brace_longer : (h : Bool) (d : ℕ) (t y : List ℕ) → Scanned y (at_brace h d t) (at_brace h d (t ++ y))
unfolding at_brace
brace_longer h d [] y = refl
brace_longer h d (c ∷ t) y =
    same_cond (λ r long. Scanned y r long) h _ _ _ _ (brace_longer false d t y)
    (same_cond (λ r long. Scanned y r long) (c == close_brace) _ _ _ _
    (same_cond (λ r long. Scanned y r long) (d == 0) _ _ _ _ (refl, refl) (brace_longer false (d - 1) t y))
    (same_cond (λ r long. Scanned y r long) (c == open_brace) _ _ _ _ (brace_longer false (d + 1) t y) (brace_longer (c == backslash) d t y)))
