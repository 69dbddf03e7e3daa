-- What pages are told to do, by the count of their words.
use Rattle.std.proofs.Common.{◌≡◌, ◌≢◌, ℕ, ◌<◌, List, [], ◌∷◌, ◌++◌, length, Ok, sym, ap, ◌∙◌, refl, arith}
use Rattle.std.proofs.lemmas.Str.{chars-nil}
pub use Rattle.std.proofs.lemmas.Str.{chars-nil as no_chars}
use Rattle.std.specs.Str.{chars}
use Rattle.tcl_chars.specs.Characters.{newline}
use Rattle.tcl_arguments.specs.WordAt.{word}
use Rattle.tcl_chars.specs.Texts.{literal}
use Rattle.tcl_meaning.specs.Asking.{done, usage}
use Rattle.tcl_meaning.specs.Channels.{puts_page, puts_usage, put_text, line_of, is_nonewline, output_of, flush_page}
use Rattle.tcl_meaning.specs.Completions.{nothing}
use Rattle.tcl_meaning.specs.State.{stdout}
use Rattle.tcl_meaning.specs.Value.{◌>>=◌, judged}
use Rattle.std.specs.Prelude.{if◌then◌else◌}
use Rattle.tcl_pages.specs.Texts.{Text}

pub line_is : (m₀ m₁ m₂ text : List ℕ) → m₀ ≡ [] → chars m₁ ≡ chars m₀ ++ chars text → chars m₂ ≡ chars m₁ ++ newline ∷ [] → chars m₂ ≡ line_of (chars text)
line_is m₀ m₁ m₂ text z p q = q ∙ ap (λ t. t ++ newline ∷ []) (p ∙ ap (λ m. chars m ++ chars text) z ∙ ap (λ t. t ++ chars text) chars-nil)

pub puts_none : (ws : List Text) → length ws ≡ 0 → puts_page ws ≡ usage puts_usage
unfolding puts_page
puts_none [] h = refl
puts_none (a ∷ ws) h = absurd (omega arith)

pub puts_many : (ws : List Text) → 3 < length ws → puts_page ws ≡ usage puts_usage
unfolding puts_page
puts_many [] h = absurd (omega arith)
puts_many (a ∷ []) h = absurd (omega arith)
puts_many (a ∷ b ∷ []) h = absurd (omega arith)
puts_many (a ∷ b ∷ c ∷ []) h = absurd (omega arith)
puts_many (a ∷ b ∷ c ∷ d ∷ ws) h = refl

pub puts_one : (ws : List Text) → length ws ≡ 1 → puts_page ws ≡ put_text (Ok stdout) (line_of (word ws 0))
unfolding puts_page
puts_one [] h = absurd (omega arith)
puts_one (a ∷ []) h = refl
puts_one (a ∷ b ∷ ws) h = absurd (omega arith)

pub puts_two : (ws : List Text) → length ws ≡ 2
    → puts_page ws ≡ (if is_nonewline (word ws 0) then put_text (Ok stdout) (word ws 1) else put_text (output_of (word ws 0)) (line_of (word ws 1)))
unfolding puts_page
puts_two [] h = absurd (omega arith)
puts_two (a ∷ []) h = absurd (omega arith)
puts_two (a ∷ b ∷ []) h = refl
puts_two (a ∷ b ∷ c ∷ ws) h = absurd (omega arith)

pub puts_three : (ws : List Text) → length ws ≡ 3
    → puts_page ws ≡ (if is_nonewline (word ws 0) then put_text (output_of (word ws 1)) (word ws 2) else usage puts_usage)
unfolding puts_page
puts_three [] h = absurd (omega arith)
puts_three (a ∷ []) h = absurd (omega arith)
puts_three (a ∷ b ∷ []) h = absurd (omega arith)
puts_three (a ∷ b ∷ c ∷ []) h = refl
puts_three (a ∷ b ∷ c ∷ d ∷ ws) h = absurd (omega arith)

pub puts_two_is : (ws : List Text) (first t : Text) → length ws ≡ 2 → first ≡ word ws 0 → t ≡ word ws 1
    → puts_page ws ≡ (if is_nonewline first then put_text (Ok stdout) t else put_text (output_of first) (line_of t))
puts_two_is ws first t h e f =
    puts_two ws h
    ∙ sym (ap (λ a. if is_nonewline a then put_text (Ok stdout) t else put_text (output_of a) (line_of t)) e
    ∙ ap (λ x. if is_nonewline (word ws 0) then put_text (Ok stdout) x else put_text (output_of (word ws 0)) (line_of x)) f)

pub puts_three_is : (ws : List Text) (first channel t : Text) → length ws ≡ 3 → first ≡ word ws 0 → channel ≡ word ws 1 → t ≡ word ws 2
    → puts_page ws ≡ (if is_nonewline first then put_text (output_of channel) t else usage puts_usage)
puts_three_is ws first channel t h e f g =
    puts_three ws h
    ∙ sym (ap (λ a. if is_nonewline a then put_text (output_of channel) t else usage puts_usage) e
    ∙ ap (λ x. if is_nonewline (word ws 0) then put_text (output_of x) t else usage puts_usage) f
    ∙ ap (λ x. if is_nonewline (word ws 0) then put_text (output_of (word ws 1)) x else usage puts_usage) g)

pub flush_usage : (ws : List Text) → length ws ≢ 1 → flush_page ws ≡ usage (literal "flush channelId")
unfolding flush_page
flush_usage [] h = refl
flush_usage (a ∷ []) h = absurd (h refl)
flush_usage (a ∷ b ∷ ws) h = refl

pub flush_one : (ws : List Text) → length ws ≡ 1 → flush_page ws ≡ (judged (output_of (word ws 0)) >>= λ o. done nothing)
unfolding flush_page
flush_one [] h = absurd (omega arith)
flush_one (a ∷ []) h = refl
flush_one (a ∷ b ∷ ws) h = absurd (omega arith)
