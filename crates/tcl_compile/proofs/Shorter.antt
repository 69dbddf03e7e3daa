-- The text of a literal word behind a command's name is shorter than the text that it stands in.
use Rattle.std.proofs.Common.{◌≡◌, ℕ, suc, ◌+◌, ◌-◌, ◌<◌, ◌≤◌, Bool, true, false, List, [], ◌∷◌, ◌++◌, length, drop, sym, ap, ◌∙◌, arith, length-append, length-drop}
use Rattle.std.specs.Prelude.{IfSome}
use Rattle.std.proofs.lemmas.Option.{IfSome_then}
use Rattle.tcl_chars.specs.Characters.{newline, backslash, close_brace, quote, space}
use Rattle.tcl_chars.specs.Escape.{blanks, escape as escape_of}
use Rattle.tcl_chars.specs.Place.{EndsWith, bytes}
use Rattle.tcl_chars.proofs.EscapesLemmas.{escape_takes}
use Rattle.tcl_words.specs.First.{command, first_command}
use Rattle.tcl_words.specs.Parts.{Part, Shape}
use Rattle.tcl_words.specs.Spelling.{Blanks, Comment, Separators, Inside, Piece, Pieces, Body, Word, Words, Command, ends_word}
use Rattle.tcl_words.specs.declared.word.Form.{Form}
use Rattle.tcl_words.proofs.OneReading.{command_is_spelled}
use Rattle.tcl_words.proofs.ReadIsSpelled.{pieces_front}
use Rattle.tcl_compile.specs.Literals.{spelled}
use Rattle.tcl_compile.specs.Within.{PiecesAreShort, WordsAreShort, ArgumentsAreShort}
use Rattle.tcl_compile.proofs.LiteralWords.{some_with}

-- ---- between words

blanks_le : (cs rest : List ℕ) → Blanks cs rest → length rest ≤ length cs
blanks_le _ _ (Blanks.none rest) = omega arith
blanks_le _ _ (Blanks.white c cs rest e b) = omega (arith, blanks_le cs rest b)
blanks_le _ _ (Blanks.hidden_newline cs rest b) = omega (arith, blanks_le cs rest b)

comment_le : (cs rest : List ℕ) → Comment cs rest → length rest ≤ length cs
comment_le _ _ (Comment.at_newline rest) = omega arith
comment_le _ _ Comment.at_end = omega arith
comment_le _ _ (Comment.character c cs rest h k x) = omega (arith, comment_le cs rest x)
comment_le _ _ (Comment.passed c cs rest x) = omega (arith, comment_le cs rest x)
comment_le _ _ Comment.last_backslash = omega arith

separators_le : (cs rest : List ℕ) → Separators cs rest → length rest ≤ length cs
separators_le _ _ (Separators.none rest) = omega arith
separators_le _ _ (Separators.separator c cs rest e x) = omega (arith, separators_le cs rest x)
separators_le _ _ (Separators.hidden_newline cs rest x) = omega (arith, separators_le cs rest x)
separators_le _ _ (Separators.comment cs after rest k x) = omega (arith, comment_le cs after k, separators_le after rest x)

-- ---- pieces and words

-- the text that pieces spell, and the rest, are no longer than the whole
abbrev Fills : List ℕ → List ℕ → List ℕ → Type 0
Fills cs rest t = length t + length rest ≤ length cs

abbrev Takes : List ℕ → List ℕ → List Part → Type 0
Takes cs rest ps = IfSome (spelled ps) (Fills cs rest)

piece_takes : (size levels : ℕ) (ends : List ℕ → Bool) (cs : List ℕ) (p : Part) (after rest : List ℕ) (ps : List Part) → Piece size levels ends cs p after → Takes after rest ps → Takes cs rest (p ∷ ps)
piece_takes size _ _ _ _ _ rest ps (Piece.plain levels ends cs s after r w) h = some_with (λ t. s.text ++ t) (Fills after rest) (Fills cs rest) (spelled ps) (λ t le. omega (arith, le, ap length w.joined, length-append s.text after, length-append s.text t)) h
piece_takes size _ _ _ _ _ rest ps (Piece.escaped levels ends cs s after r w) h =
    let least = escape_takes backslash cs in
    let n = (escape_of (backslash ∷ cs)).1 in
    some_with (λ t. (escape_of (backslash ∷ cs)).0 ∷ t) (Fills after rest) (Fills (backslash ∷ cs) rest) (spelled ps) (λ t le. omega (arith, le, least, ap length r, length-drop n (backslash ∷ cs))) h
piece_takes size _ _ _ _ _ rest ps (Piece.variable levels ends cs s name after b l p n w) h = tt
piece_takes size _ _ _ _ _ rest ps (Piece.braced_variable levels ends cs s name after l n w) h = tt
piece_takes size _ _ _ _ _ rest ps (Piece.element levels k ends cs s name index qs after v l n i w) h = tt
piece_takes size _ _ _ _ _ rest ps (Piece.script levels k ends cs s inside commands after v n c w) h = tt

pieces_take : (size levels : ℕ) (ends : List ℕ → Bool) (cs : List ℕ) (ps : List Part) (rest : List ℕ) → Pieces size levels ends cs ps rest → Takes cs rest ps
pieces_take size _ _ _ _ _ (Pieces.done levels ends rest e) = omega arith
pieces_take size _ _ _ _ _ (Pieces.piece levels ends cs p after ps rest e q k) = piece_takes size levels ends cs p after rest ps q (pieces_take size levels ends after ps rest k)

inside_takes : (size : ℕ) (cs : List ℕ) (ps : List Part) → Inside size cs ps → Takes cs [] ps
inside_takes size _ _ Inside.nothing = omega arith
inside_takes size _ _ (Inside.verbatim c cs s rest ps h u w k) = some_with (λ t. s.text ++ t) (Fills rest []) (Fills (c ∷ cs) []) (spelled ps) (λ t le. omega (arith, le, ap length w.joined, length-append s.text rest, length-append s.text t)) (inside_takes size rest ps k)
inside_takes size _ _ (Inside.one_space cs s ps w k) = some_with (λ t. space ∷ t) (Fills (drop (blanks cs) cs) []) (Fills (backslash ∷ newline ∷ cs) []) (spelled ps) (λ t le. omega (arith, le, length-drop (blanks cs) cs)) (inside_takes size _ ps k)

short_by : (n : ℕ) (cs rest : List ℕ) (ps : List Part) → length cs ≤ n → Takes cs rest ps → PiecesAreShort n ps
short_by n cs rest ps le h = IfSome_then (spelled ps) h (λ t k. omega (arith, le, k))

body_short : (size n levels : ℕ) (nested : Bool) (cs : List ℕ) (f : Form) (ps : List Part) (rest : List ℕ) → length cs ≤ n → Body size levels nested cs f ps rest → PiecesAreShort n ps
body_short size n _ _ _ _ _ _ le (Body.braced levels nested cs inside ps rest e b i) = short_by n inside [] ps (omega (arith, le, ap length e, length-append inside (close_brace ∷ rest))) (inside_takes _ inside ps i)
body_short size n _ _ _ _ _ _ le (Body.quoted levels nested cs ps rest k) = short_by n cs (quote ∷ rest) ps (omega (arith, le)) (pieces_take size levels _ cs ps (quote ∷ rest) k)
body_short size n _ _ _ _ _ _ le (Body.bare levels nested cs ps rest h q k) = short_by n cs rest ps le (pieces_take size levels _ cs ps rest k)

word_short : (size n levels : ℕ) (nested : Bool) (cs : List ℕ) (w : Shape) (rest : List ℕ) → length cs ≤ n → Word size levels nested cs w rest → PiecesAreShort n w.pieces
word_short size n _ _ _ _ _ le (Word.without_mark levels nested cs f ps rest b stop) = body_short size n levels nested cs f ps rest le b
word_short size n _ _ _ _ _ le (Word.behind_mark levels nested cs f ps rest on b stop) = body_short size n levels nested cs f ps rest (omega (arith, le)) b

-- an end of a text is shorter, or the whole
end_less : (nested : Bool) (cs rest : List ℕ) → EndsWith cs rest → ends_word nested cs ≡ false → ends_word nested rest ≡ true → length rest < length cs
end_less nested cs rest e f t = go e.front e.joined
  where
    go : (front : List ℕ) → cs ≡ front ++ rest → length rest < length cs
    go [] j = absurd (no (sym f ∙ ap (ends_word nested) j ∙ t))
      where
        no : false ≡ true → ⊥
        no q = cc
    go (c ∷ front) j = omega (arith, ap length j, length-append (c ∷ front) rest)

body_less : (size levels : ℕ) (nested : Bool) (cs : List ℕ) (f : Form) (ps : List Part) (rest : List ℕ) → ends_word nested cs ≡ false → ends_word nested rest ≡ true → Body size levels nested cs f ps rest → length rest < length cs
body_less size _ _ _ _ _ _ on stop (Body.braced levels nested cs inside ps rest e b i) = omega (arith, ap length e, length-append inside (close_brace ∷ rest))
body_less size _ _ _ _ _ _ on stop (Body.quoted levels nested cs ps rest k) = omega (arith, ap length (pieces_front size levels _ cs ps _ k).joined, length-append (pieces_front size levels _ cs ps _ k).front (quote ∷ rest))
body_less size _ _ _ _ _ _ on stop (Body.bare levels nested cs ps rest h q k) = end_less nested cs rest (pieces_front size levels _ cs ps rest k) on stop

word_less : (size levels : ℕ) (nested : Bool) (cs : List ℕ) (w : Shape) (rest : List ℕ) → ends_word nested cs ≡ false → Word size levels nested cs w rest → length rest < length cs
word_less size _ _ _ _ _ on (Word.without_mark levels nested cs f ps rest b stop) = body_less size levels nested cs f ps rest on stop b
word_less size _ _ _ _ _ on (Word.behind_mark levels nested cs f ps rest goes b stop) = omega (arith, body_less size levels nested cs f ps rest goes stop b)

-- ---- commands

words_short : (size n levels : ℕ) (nested : Bool) (cs : List ℕ) (ws : List Shape) (rest : List ℕ) → length cs ≤ n → Words size levels nested cs ws rest → WordsAreShort n ws
words_short size n _ _ _ _ _ le (Words.blanks_alone levels nested cs rest b) = tt
words_short size n _ _ _ _ _ le (Words.word levels nested cs here w after ws rest b on x k) =
    let at = blanks_le cs here b in
    (word_short size n levels nested here w after (omega (arith, le, at)) x, words_short size n levels nested after ws rest (omega (arith, le, at, word_less size levels nested here w after on x)) k)

arguments_short : (size n levels : ℕ) (nested : Bool) (cs : List ℕ) (ws : List Shape) (rest : List ℕ) → length cs ≤ suc n → Words size levels nested cs ws rest → ArgumentsAreShort n ws
arguments_short size n _ _ _ _ _ le (Words.blanks_alone levels nested cs rest b) = tt
arguments_short size n _ _ _ _ _ le (Words.word levels nested cs here w after ws rest b on x k) = words_short size n levels nested after ws rest (omega (arith, le, blanks_le cs here b, word_less size levels nested here w after on x)) k

command_short : (size n levels : ℕ) (nested : Bool) (cs : List ℕ) (ws : List Shape) (rest : List ℕ) → length cs ≤ suc n → Command size levels nested cs ws rest → ArgumentsAreShort n ws
command_short size n _ _ _ _ _ le (Command.command levels nested cs here ws stop rest s h on k e) = arguments_short size n levels nested here ws stop (omega (arith, le, separators_le cs here s)) k

pub first_short : (levels : ℕ) (t : List ℕ) (ws : List Shape) (rest : List ℕ) → first_command levels t ≡ command ws rest → ArgumentsAreShort (length t - 1) ws
first_short levels t ws rest e = command_short (bytes t) (length t - 1) levels false t ws rest (omega arith) ((command_is_spelled (bytes t) levels false t ws rest).0 e)
