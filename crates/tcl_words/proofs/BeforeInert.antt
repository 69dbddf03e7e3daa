-- Before an inert character, one that goes on with nothing, a text is read as where it ends.
use Rattle.std.proofs.Common.{◌≡◌, ℕ, Bool, true, false, ◌&&◌, ◌||◌, ◌==◌, List, [], ◌∷◌, ◌++◌, drop, refl, ap, ◌∙◌, arith}
use Rattle.std.proofs.lemmas.List.{drop-append-le}
use Rattle.std.proofs.Math.Bool.{and-false}
use Rattle.tcl_chars.specs.Characters.{newline, backslash, semicolon, number_sign, colon, open_paren, open_brace}
use Rattle.tcl_chars.specs.Classes.{is_word_space, is_name_char}
use Rattle.tcl_chars.specs.Escape.{escape}
use Rattle.tcl_chars.specs.Place.{begins}
use Rattle.tcl_chars.proofs.EscapesLemmas.{StopsEscapes, escape_before, escape_takes_next}
use Rattle.tcl_words.specs.declared.blanks.Gap.{Gap}
use Rattle.tcl_words.specs.declared.blanks.Gap.TheVariants as gap
use Rattle.tcl_words.specs.declared.front.Mode.{Mode}
use Rattle.tcl_words.specs.declared.front.Mode.TheVariants as mode
use Rattle.tcl_words.specs.Words.{after_blanks, after_gaps, after_name, begins_variable, kind_of, is_plain, after_plain}
use Rattle.tcl_words.proofs.Longer.{same_cond, some}

-- a character that no name, no look ahead and no escape goes on with
pub record Inert (d : ℕ) : Type 0 where
  pub no_name : is_name_char d ≡ false
  pub no_colon : (d == colon) ≡ false
  pub no_newline : (d == newline) ≡ false
  pub no_paren : (d == open_paren) ≡ false
  pub no_brace : (d == open_brace) ≡ false
  pub no_escape : StopsEscapes d

pub inert_quote : Inert 34
inert_quote = record { no_name = refl; no_colon = refl; no_newline = refl; no_paren = refl; no_brace = refl; no_escape = record { no_octal = refl; no_digit = refl; no_blank = refl } }

pub inert_paren : Inert 41
inert_paren = record { no_name = refl; no_colon = refl; no_newline = refl; no_paren = refl; no_brace = refl; no_escape = record { no_octal = refl; no_digit = refl; no_blank = refl } }

pub inert_semicolon : Inert 59
inert_semicolon = record { no_name = refl; no_colon = refl; no_newline = refl; no_paren = refl; no_brace = refl; no_escape = record { no_octal = refl; no_digit = refl; no_blank = refl } }

pub inert_backslash : Inert 92
inert_backslash = record { no_name = refl; no_colon = refl; no_newline = refl; no_paren = refl; no_brace = refl; no_escape = record { no_octal = refl; no_digit = refl; no_blank = refl } }

pub inert_bracket : Inert 93
inert_bracket = record { no_name = refl; no_colon = refl; no_newline = refl; no_paren = refl; no_brace = refl; no_escape = record { no_octal = refl; no_digit = refl; no_blank = refl } }

-- ---- looks ahead and scans

pub begins_before : (x : ℕ) (t : List ℕ) (d : ℕ) (y : List ℕ) → (d == x) ≡ false → begins x (t ++ d ∷ y) ≡ begins x t
begins_before x [] d y h = h
begins_before x (c ∷ t) d y h = refl

pub variable_before : (t : List ℕ) (d : ℕ) (y : List ℕ) → Inert d → begins_variable (t ++ d ∷ y) ≡ begins_variable t
variable_before [] d y h = rw (h.no_name, h.no_colon, h.no_brace, h.no_paren) refl
variable_before (c ∷ t) d y h = rw (begins_before colon t d y h.no_colon) refl

pub kind_before : (m : Mode) (c : ℕ) (t : List ℕ) (d : ℕ) (y : List ℕ) → Inert d → kind_of m (c ∷ (t ++ d ∷ y)) ≡ kind_of m (c ∷ t)
unfolding kind_of
kind_before (mode.Bare nested) c t d y h = rw (begins_before newline t d y h.no_newline, variable_before t d y h) refl
kind_before mode.Quoted c t d y h = rw (variable_before t d y h) refl
kind_before mode.Index c t d y h = rw (variable_before t d y h) refl

pub plain_before : (m : Mode) (t : List ℕ) (d : ℕ) (y : List ℕ) → Inert d → after_plain m (d ∷ y) ≡ d ∷ y → after_plain m (t ++ d ∷ y) ≡ after_plain m t ++ d ∷ y
unfolding after_plain
plain_before m [] d y h stops = stops
plain_before m (c ∷ t) d y h stops = rw (kind_before m c t d y h) (same_cond (λ r l. l ≡ r ++ d ∷ y) (is_plain (kind_of m (c ∷ t))) _ _ _ _ (plain_before m t d y h stops) refl)

pub name_before : (f : Bool) (t : List ℕ) (d : ℕ) (y : List ℕ) → Inert d → after_name f (t ++ d ∷ y) ≡ after_name f t ++ d ∷ y
unfolding after_name
name_before f [] d y h = rw (h.no_name, h.no_colon) refl
name_before f (c ∷ t) d y h =
    rw (begins_before colon t d y h.no_colon) (same_cond (λ r l. l ≡ r ++ d ∷ y) (is_name_char c) _ _ _ _ (name_before false t d y h)
    (same_cond (λ r l. l ≡ r ++ d ∷ y) (c == colon && (f || begins colon t)) _ _ _ _ (name_before true t d y h) refl))

pub blanks_before : (t : List ℕ) (d : ℕ) (y : List ℕ) → Inert d → after_blanks (d ∷ y) ≡ d ∷ y → after_blanks (t ++ d ∷ y) ≡ after_blanks t ++ d ∷ y
unfolding after_blanks
blanks_before [] d y h stops = stops
blanks_before (c ∷ []) d y h stops = rw (h.no_newline, and-false (c == backslash)) (same_cond (λ r l. l ≡ r ++ d ∷ y) (is_word_space c) _ _ _ _ stops refl)
blanks_before (c ∷ e ∷ t) d y h stops =
    same_cond (λ r l. l ≡ r ++ d ∷ y) (is_word_space c) _ _ _ _ (blanks_before (e ∷ t) d y h stops)
    (same_cond (λ r l. l ≡ r ++ d ∷ y) (c == backslash && e == newline) _ _ _ _ (blanks_before t d y h stops) refl)

abbrev SomeBefore : List ℕ → List ℕ → List ℕ → Type 0
SomeBefore w rest long = some rest ≡ true → long ≡ rest ++ w

pub gaps_before : (g : Gap) (t : List ℕ) (d : ℕ) (y : List ℕ) → Inert d → SomeBefore (d ∷ y) (after_gaps g t) (after_gaps g (t ++ d ∷ y))
unfolding after_gaps
gaps_before g [] d y h = λ s. absurd cc
gaps_before gap.Between (c ∷ t) d y h =
    rw (begins_before newline t d y h.no_newline)
    (same_cond (SomeBefore (d ∷ y)) (is_word_space c || c == newline || c == semicolon || (c == backslash && begins newline t)) _ _ _ _ (gaps_before gap.Between t d y h)
    (same_cond (SomeBefore (d ∷ y)) (c == number_sign) _ _ _ _ (gaps_before (gap.Comment false) t d y h) (λ s. refl)))
gaps_before (gap.Comment hidden) (c ∷ t) d y h =
    same_cond (SomeBefore (d ∷ y)) hidden _ _ _ _ (gaps_before (gap.Comment false) t d y h)
    (same_cond (SomeBefore (d ∷ y)) (c == newline) _ _ _ _ (gaps_before gap.Between t d y h) (gaps_before (gap.Comment (c == backslash)) t d y h))

-- ---- escapes

-- A backslash that ends the text takes what follows, and any other escape ends there.
pub escape_rest_before : (b c : ℕ) (t : List ℕ) (d : ℕ) (y : List ℕ) → Inert d → drop (escape (b ∷ c ∷ (t ++ d ∷ y))).1 (b ∷ c ∷ (t ++ d ∷ y)) ≡ drop (escape (b ∷ c ∷ t)).1 (b ∷ c ∷ t) ++ d ∷ y
escape_rest_before b c t d y h =
    let s = escape_before b c t d y h.no_escape in
    ap (λ p. drop p.1 (b ∷ c ∷ (t ++ d ∷ y))) s.same ∙ drop-append-le (escape (b ∷ c ∷ t)).1 (b ∷ c ∷ t) (d ∷ y) (omega (arith, s.inside))

pub double_backslash : (y : List ℕ) → drop (escape (92 ∷ 92 ∷ y)).1 (92 ∷ 92 ∷ y) ≡ y
double_backslash y = rw (escape_takes_next 92 92 y inert_backslash.no_escape refl refl refl) refl
