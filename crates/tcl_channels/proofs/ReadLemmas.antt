-- read(n), eof(n): their forms.
use Rattle.std.proofs.Common.{◌≡◌, ◌≢◌, ◌⊎◌, inl, inr, ℕ, true, false, ◌==◌, List, [], ◌∷◌, ◌++◌, length, sym, ap, ◌∙◌, refl, arith}
use Rattle.std.specs.Prelude.{None, if◌then◌else◌}
use Rattle.std.proofs.lemmas.Bool.Decides.{eqb_tells}
use Rattle.tcl_arguments.specs.WordAt.{word}
use Rattle.tcl_chars.specs.Characters.{newline}
use Rattle.tcl_chars.specs.Texts.{literal}
use Rattle.tcl_chars.specs.declared.numbers.Dialect.{Dialect}
use Rattle.std.proofs.lemmas.Str.{chars-nil}
use Rattle.std.specs.Str.{chars}
use Rattle.tcl_chars.specs.Messages.{about}
use Rattle.tcl_meaning.specs.Asking.{Asks, usage}
use Rattle.tcl_meaning.specs.Completions.{Completion, failure}
use Rattle.tcl_meaning.specs.Effects.{Plain}
use Rattle.tcl_channels.specs.Orders.{from_input, read_from, counted_page}
use Rattle.tcl_meaning.specs.Channels.{read_page, taken_whole, taken_without_newline, taken_count, is_nonewline, input_of, channel_of, eof_page, said_ended, without_newline, no_count}
use Rattle.tcl_meaning.specs.Value.{Value, ◌>>=◌, judged, give, fail}
use Rattle.tcl_pages.specs.Texts.{Text}
use Rattle.tcl_channels.proofs.InputLemmas.{without_last_newline, without_other}

pub read_one : (d : Dialect) (ws : List Text) → length ws ≡ 1 → read_page d ws ≡ taken_whole (word ws 0)
unfolding read_page
read_one d [] h = absurd (omega arith)
read_one d (a ∷ []) h = refl
read_one d (a ∷ b ∷ ws) h = absurd (omega arith)

pub read_two : (d : Dialect) (ws : List Text) → length ws ≡ 2
    → read_page d ws ≡ (if is_nonewline (word ws 0) then taken_without_newline (word ws 1) else taken_count d (word ws 0) (word ws 1))
unfolding read_page
read_two d [] h = absurd (omega arith)
read_two d (a ∷ []) h = absurd (omega arith)
read_two d (a ∷ b ∷ []) h = refl
read_two d (a ∷ b ∷ c ∷ ws) h = absurd (omega arith)

pub read_usage : (d : Dialect) (ws : List Text) → length ws ≢ 1 → length ws ≢ 2 → read_page d ws ≡ usage (literal "read channelId ?numChars?")
unfolding read_page
read_usage d [] h k = refl
read_usage d (a ∷ []) h k = absurd (h refl)
read_usage d (a ∷ b ∷ []) h k = absurd (k refl)
read_usage d (a ∷ b ∷ c ∷ ws) h k = refl

pub eof_usage : (ws : List Text) → length ws ≢ 1 → eof_page ws ≡ usage (literal "eof channelId")
unfolding eof_page
eof_usage [] h = refl
eof_usage (a ∷ []) h = absurd (h refl)
eof_usage (a ∷ b ∷ ws) h = refl

pub eof_one : (ws : List Text) → length ws ≡ 1 → eof_page ws ≡ (judged (channel_of (word ws 0)) >>= said_ended)
unfolding eof_page
eof_one [] h = absurd (omega arith)
eof_one (a ∷ []) h = refl
eof_one (a ∷ b ∷ ws) h = absurd (omega arith)

-- ---- a text's last character

pub newline_cut : (t front : Text) (c : ℕ) → t ≡ front ++ c ∷ [] → c ≡ newline → front ≡ without_newline t
newline_cut t front c e h = sym (ap without_newline e ∙ without_last_newline front c (by_tells (eqb_tells c newline)))
  where
    by_tells : (((c == newline) ≡ true) × (c ≡ newline)) ⊎ (((c == newline) ≡ false) × (c ≢ newline)) → (c == newline) ≡ true
    by_tells (inl p) = p.0
    by_tells (inr p) = absurd (p.1 h)

pub no_newline : (t front : Text) (c : ℕ) → t ≡ front ++ c ∷ [] → c ≢ newline → t ≡ without_newline t
no_newline t front c e h = sym (ap without_newline e ∙ without_other front c (by_tells (eqb_tells c newline)) ∙ sym e)
  where
    by_tells : (((c == newline) ≡ true) × (c ≡ newline)) ⊎ (((c == newline) ≡ false) × (c ≢ newline)) → (c == newline) ≡ false
    by_tells (inl p) = absurd (h p.1)
    by_tells (inr p) = p.0

nothing_cut : [] ≡ without_newline []
unfolding without_newline
nothing_cut = refl

pub no_character : (t : Text) → t ≡ [] → t ≡ without_newline t
no_character t e = e ∙ nothing_cut ∙ ap without_newline (sym e)

-- ---- by the texts of the words

pub read_one_is : (d : Dialect) (ws : List Text) (channel : Text) → length ws ≡ 1 → channel ≡ word ws 0 → read_page d ws ≡ from_input channel (read_from None true)
read_one_is d ws channel h e = read_one d ws h ∙ ap taken_whole (sym e)

pub read_two_is : (d : Dialect) (ws : List Text) (first second : Text) → length ws ≡ 2 → first ≡ word ws 0 → second ≡ word ws 1
    → read_page d ws ≡ (if is_nonewline first then from_input second (read_from None false) else from_input first (counted_page d second))
read_two_is d ws first second h e f =
    read_two d ws h
    ∙ ap (λ a. if is_nonewline a then taken_without_newline (word ws 1) else taken_count d a (word ws 1)) (sym e)
    ∙ ap (λ b. if is_nonewline first then taken_without_newline b else taken_count d first b) (sym f)

pub input_given : (channel : Text) (page : Asks) → judged {T = ⊥} (input_of channel) ≡ give tt → from_input channel page ≡ page
input_given channel page e = ap (λ q. q >>= λ u. page) e

pub no_count_is : (t : Text) (c : Completion) → c ≡ failure (about (literal "expected non-negative integer but got") t (chars [])) → ◌≡◌ {A = Plain (Value ℕ)} (fail (failure (no_count t))) (fail c)
no_count_is t c e = sym (ap (λ x. fail x) (e ∙ ap (λ z. failure (about (literal "expected non-negative integer but got") t z)) chars-nil))
