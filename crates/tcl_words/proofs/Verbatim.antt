-- What the next piece of the text inside braces is.
use Rattle.std.proofs.Common.{◌≡◌, ℕ, true, false, List, [], ◌∷◌, drop, Option, Some, None, Ok, refl, sym, ap, ◌∙◌, inl, inr}
use Rattle.tcl_chars.specs.Escape.{escape as escape_of}
use Rattle.tcl_words.specs.declared.word.Piece.TheBlock as piece
use Rattle.tcl_words.specs.declared.word.Piece.TheFolds.{fold-roll-Piece}
use Rattle.tcl_words.specs.declared.word.Piece.TheOpen.{Piece-F}
use Rattle.tcl_words.specs.declared.word.Piece.TheVariants.{rolls-Escape, rolls-Text}
use Rattle.tcl_words.specs.declared.word.Span.{Span}
use Rattle.std.proofs.lemmas.Bool.{cases_Bool}
use Rattle.std.specs.Prelude.{IfOk, IsSome}
use Rattle.tcl_chars.proofs.Ends.{if_ok}
use Rattle.tcl_words.specs.Parts.{Stretch, Part, text, escape, part_of, part_step, stretch_of}
use Rattle.tcl_words.specs.Words.{stretch, begins_hidden_newline, after_verbatim, verbatim_at}

-- what the code's pieces are seen as
pub escape_seen : (s : Span) (c : ℕ) → part_of (piece.Escape s c) ≡ escape (stretch_of s) c
escape_seen s c = ap part_of (sym (rolls-Escape s c)) ∙ fold-roll-Piece Part part_step (Piece-F.Escape s c)

pub text_seen : (s : Span) → part_of (piece.Text s) ≡ text (stretch_of s)
text_seen s = ap part_of (sym (rolls-Text s)) ∙ fold-roll-Piece Part part_step (Piece-F.Text s)

pub verbatim_none : (size : ℕ) (cs : List ℕ) → cs ≡ [] → verbatim_at size cs ≡ Ok (None, cs)
unfolding verbatim_at
verbatim_none size [] e = refl
verbatim_none size (c ∷ cs) e = absurd cc

pub verbatim_escape : (size : ℕ) (cs : List ℕ) (s : Stretch) (meant : ℕ) (rest : List ℕ) → begins_hidden_newline cs ≡ true → s ≡ stretch size cs rest → meant ≡ (escape_of cs).0 → rest ≡ drop (escape_of cs).1 cs
    → verbatim_at size cs ≡ Ok (Some (escape s meant), rest)
unfolding verbatim_at
verbatim_escape size [] s meant rest h e f g = absurd cc
verbatim_escape size (c ∷ cs) s meant rest h e f g = rw (h, e, f, g) refl

pub verbatim_text : (size : ℕ) (cs : List ℕ) (s : Stretch) (c : ℕ) (ds rest : List ℕ) → begins_hidden_newline cs ≡ false → cs ≡ c ∷ ds → s ≡ stretch size cs rest → rest ≡ after_verbatim cs
    → verbatim_at size cs ≡ Ok (Some (text s), rest)
unfolding verbatim_at
verbatim_text size [] s c ds rest h d e g = absurd cc
verbatim_text size (b ∷ cs) s c ds rest h d e g = rw (h, e, g) refl

goes_on : (size c : ℕ) (cs : List ℕ) → IfOk (verbatim_at size (c ∷ cs)) (λ t. IsSome t.0)
unfolding verbatim_at
goes_on size c cs = elim (cases_Bool (begins_hidden_newline (c ∷ cs))) [
  | inl h ↦ rw h refl
  | inr h ↦ rw h refl
]

is_none : (x : Option Part) → x ≡ None → IsSome x → ⊥
is_none None e h = cc
is_none (Some p) e h = cc

-- the last turn is at the end
pub stops_at_end : (size : ℕ) (cs rest : List ℕ) → verbatim_at size cs ≡ Ok (None, rest) → rest ≡ []
unfolding verbatim_at
stops_at_end size [] rest e = if_ok (λ t. t.1 ≡ []) (verbatim_at size []) (None, rest) refl e
stops_at_end size (c ∷ cs) rest e = absurd (is_none None refl (if_ok (λ t. IsSome t.0) (verbatim_at size (c ∷ cs)) (None, rest) (goes_on size c cs) e))
