-- What is spelled is read so.
use Rattle.std.proofs.Common.{◌≡◌, ℕ, zero, suc, Bool, true, false, cond, not, ◌&&◌, ◌==◌, List, [], ◌∷◌, ◌++◌, drop, Some, None, Result, Ok, Err, refl, sym, ap, subst, ◌∙◌, arith, inl, inr}
use Rattle.std.proofs.lemmas.Bool.{cases_Bool, true≢false}
use Rattle.tcl_chars.specs.Characters.{newline, space, backslash, dollar, quote, open_bracket, close_bracket, open_brace, close_brace, open_paren, close_paren, star}
use Rattle.tcl_chars.specs.Escape.{blanks, escape as escape_of, escape_of as escape_by}
use Rattle.tcl_chars.specs.Place.{begins, tail, before, place}
use Rattle.tcl_chars.specs.Reading.{with_front, all_turns}
use Rattle.tcl_chars.proofs.Turns.{last_turn, one_turn}
use Rattle.tcl_words.specs.declared.fault.Syntax.{Syntax}
use Rattle.tcl_words.specs.declared.front.Kind.{Kind}
use Rattle.tcl_words.specs.declared.front.Kind.TheVariants as kind
use Rattle.tcl_words.specs.declared.front.Mode.{Mode}
use Rattle.tcl_words.specs.declared.front.Mode.TheVariants as mode
use Rattle.tcl_words.specs.declared.word.Form.{Form}
use Rattle.tcl_words.specs.Parts.{Stretch, Part, Parts, parts_of, text, escape, var, elem_, bracket, Shape}
use Rattle.tcl_words.specs.Spelling.{Stands, ends_word, IsLongestName, begins_name, begins_variable, stands_for_itself, PlainRun, Balanced, Inside, Piece, Pieces, Body, Word, Words, Command, Commands, NoCommand}
use Rattle.tcl_words.specs.Words.{after_blanks, after_name, at_variable_brace, at_brace, verbatim_at, braced_at, kind_of, ends_pieces, marked, form_of, stretch, Inner, inner_at, variable_at, bracket_at, piece_of, piece_at, pieces_at, quoted_at, word_of, word_at, next_word, words_at, first_at, commands_at, after_commands}
use Rattle.tcl_chars.proofs.Ends.{forward_shrinks}
use Rattle.tcl_words.proofs.Forward.{verbatim_forward, piece_forward, word_forward, first_forward, inner_inside}
use Rattle.tcl_words.proofs.ReadIsSpelled.{front_is, drop_two, mark_parts}
use Rattle.tcl_words.proofs.ScansSpelled.{one_is, blanks_read, separators_read, run_read, name_read, no_name_here, variable_brace_read, braces_read, hidden_read, solid_blanks, solid_gaps, script_gaps, script_ends_word, end_read}
use Rattle.tcl_words.proofs.Verbatim.{verbatim_escape, verbatim_text}

pub stands_is : (size : ℕ) (cs : List ℕ) (s : Stretch) (rest : List ℕ) → Stands size cs s rest → stretch size cs rest ≡ s
stands_is size cs s rest h =
    let made : ℕ → List ℕ → Stretch = λ n t. record { start = n; text = t } in
    ap (λ t. made (place size cs) t) (front_is cs s.text rest h.joined) ∙ ap (λ n. made n s.text) (sym h.start)

-- ---- the text inside braces

nothing_inside : (size : ℕ) → verbatim_at size [] ≡ Ok (None, [])
unfolding verbatim_at
nothing_inside size = refl

hidden_newline_at : (size : ℕ) (cs : List ℕ) (s : Stretch) → Stands size (backslash ∷ newline ∷ cs) s (drop (blanks cs) cs) → verbatim_at size (backslash ∷ newline ∷ cs) ≡ Ok (Some (escape s space), drop (blanks cs) cs)
unfolding escape_by
hidden_newline_at size cs s h =
    verbatim_escape size (backslash ∷ newline ∷ cs) s space (drop (blanks cs) cs) refl (sym (stands_is size (backslash ∷ newline ∷ cs) s (drop (blanks cs) cs) h)) refl (sym (drop_two (blanks cs) backslash newline cs))

inside_read : (size : ℕ) (cs : List ℕ) (ps : List Part) → Inside size cs ps → all_turns (verbatim_at size) cs ≡ Ok (ps, [])
inside_read size _ _ Inside.nothing = last_turn (verbatim_at size) [] [] (nothing_inside size)
inside_read size _ _ (Inside.verbatim c cs s rest ps h u st i) =
    one_turn (verbatim_at size) (c ∷ cs) (text s) rest (forward_shrinks (verbatim_at size) (verbatim_forward size))
    (verbatim_text size (c ∷ cs) s c cs rest h refl (sym (stands_is size (c ∷ cs) s rest st)) (sym (hidden_read (c ∷ cs) rest u))) ∙ ap (with_front (text s ∷ [])) (inside_read size rest ps i)
inside_read size _ _ (Inside.one_space cs s ps st i) =
    one_turn (verbatim_at size) (backslash ∷ newline ∷ cs) (escape s space) (drop (blanks cs) cs) (forward_shrinks (verbatim_at size) (verbatim_forward size)) (hidden_newline_at size cs s st)
    ∙ ap (with_front (escape s space ∷ [])) (inside_read size (drop (blanks cs) cs) ps i)

pub braced_read : (size : ℕ) (cs inside : List ℕ) (ps : List Part) (rest : List ℕ) → cs ≡ inside ++ close_brace ∷ rest → Balanced inside → Inside (place size (close_brace ∷ rest)) inside ps → braced_at size (open_brace ∷ cs) ≡ Ok (ps, rest)
unfolding braced_at
braced_read size cs inside ps rest e b i =
    let close : at_brace false 0 cs ≡ Ok (close_brace ∷ rest) = ap (at_brace false 0) e ∙ braces_read inside rest b in
    let front : before cs (close_brace ∷ rest) ≡ inside = front_is cs inside (close_brace ∷ rest) e in
    rw (close, front, inside_read (place size (close_brace ∷ rest)) inside ps i) refl

-- ---- what stands in front

kind_end : (m : Mode) (cs : List ℕ) → ends_pieces m cs ≡ true → kind_of m cs ≡ kind.Ends
unfolding kind_of
kind_end (mode.Bare nested) [] e = refl
kind_end mode.Quoted [] e = absurd (true≢false (sym e))
kind_end mode.Index [] e = absurd (true≢false (sym e))
kind_end m (c ∷ cs) e = rw e refl

all_plain : (x y z v : Bool) → (not x && not y && not z && not v) ≡ true → cond x kind.Ends (cond y kind.Backslashed (cond z kind.Opening (cond v kind.Variable kind.Plain))) ≡ kind.Plain
all_plain true y z v e = absurd (true≢false (sym e))
all_plain false true z v e = absurd (true≢false (sym e))
all_plain false false true v e = absurd (true≢false (sym e))
all_plain false false false true e = absurd (true≢false (sym e))
all_plain false false false false e = refl

kind_plain : (m : Mode) (cs : List ℕ) → stands_for_itself (ends_pieces m) cs ≡ true → kind_of m cs ≡ kind.Plain
unfolding kind_of
kind_plain m [] e = absurd (true≢false (sym e))
kind_plain m (c ∷ cs) e = all_plain (ends_pieces m (c ∷ cs)) (c == backslash) (c == open_bracket) (c == dollar && begins_variable cs) e

pub run_front : (ends : List ℕ → Bool) (cs rest : List ℕ) → PlainRun ends cs rest → stands_for_itself ends cs ≡ true
run_front ends _ _ (PlainRun.last c rest h stop) = h
run_front ends _ _ (PlainRun.more c cs rest h r) = h

kind_escape : (m : Mode) (cs : List ℕ) → ends_pieces m (backslash ∷ cs) ≡ false → kind_of m (backslash ∷ cs) ≡ kind.Backslashed
unfolding kind_of
kind_escape m cs e = rw e refl

pub kind_bracket : (m : Mode) (cs : List ℕ) → ends_pieces m (open_bracket ∷ cs) ≡ false → kind_of m (open_bracket ∷ cs) ≡ kind.Opening
unfolding kind_of
kind_bracket m cs e = rw e refl

pub kind_variable : (m : Mode) (cs : List ℕ) → ends_pieces m (dollar ∷ cs) ≡ false → begins_variable cs ≡ true → kind_of m (dollar ∷ cs) ≡ kind.Variable
unfolding kind_of
kind_variable m cs e b = rw (e, b) refl

-- ---- names

name_variable : (cs : List ℕ) → begins_name cs ≡ true → (begins_variable cs ≡ true) × (begins open_brace cs ≡ false)
name_variable [] h = absurd (true≢false (sym h))
name_variable (c ∷ cs) h = (
  rw h refl,
  elim (cases_Bool (c == open_brace)) [
    | inl b ↦ absurd (one_is (λ x. begins_name (x ∷ cs) ≡ true → ⊥) c open_brace b (λ k. true≢false (sym k)) h)
    | inr b ↦ b
  ],
)

pub paren_variable : (cs index : List ℕ) → after_name false cs ≡ open_paren ∷ index → (begins_variable cs ≡ true) × (begins open_brace cs ≡ false)
paren_variable cs index e = elim (cases_Bool (begins_name cs)) [
  | inl n ↦ name_variable cs n
  | inr n ↦ subst (λ t. (begins_variable t ≡ true) × (begins open_brace t ≡ false)) (sym e ∙ no_name_here cs n) (refl, refl)
]

-- ---- pieces, words and commands, where the same is known of what nests

pub record NestRead (size levels : ℕ) : Type 0 where
  pub script : (n : ℕ) (cs : List ℕ) (commands : List (List Shape)) (rest : List ℕ) → levels ≡ suc n → Commands size n true cs commands (close_bracket ∷ rest) → (inner_at size levels).bracket cs ≡ Ok (close_bracket ∷ rest)
  pub index : (n : ℕ) (cs : List ℕ) (ps : List Part) (rest : List ℕ) → levels ≡ suc n → Pieces size n (begins close_paren) cs ps (close_paren ∷ rest) → (inner_at size levels).index cs ≡ Ok (parts_of ps, rest)

name_at : (size : ℕ) (inner : Inner) (cs : List ℕ) (s name : Stretch) (rest : List ℕ) → begins_name cs ≡ true → IsLongestName cs name.text → begins open_paren rest ≡ false → Stands size cs name rest → Stands size (dollar ∷ cs) s rest
    → variable_at size inner (dollar ∷ cs) ≡ Ok (var s name, rest)
unfolding variable_at
name_at size inner cs s name rest b l p n w =
    rw ((name_variable cs b).1, name_read cs name.text rest n.joined l, p, stands_is size (dollar ∷ cs) s rest w, stands_is size cs name rest n) refl

braced_name_at : (size : ℕ) (inner : Inner) (cs : List ℕ) (s name : Stretch) (rest : List ℕ) → at_variable_brace cs ≡ Ok (close_brace ∷ rest) → Stands size cs name (close_brace ∷ rest) → Stands size (dollar ∷ open_brace ∷ cs) s rest
    → variable_at size inner (dollar ∷ open_brace ∷ cs) ≡ Ok (var s name, rest)
unfolding variable_at
braced_name_at size inner cs s name rest c n w = rw (c, stands_is size (dollar ∷ open_brace ∷ cs) s rest w, stands_is size cs name (close_brace ∷ rest) n) refl

element_at : (size : ℕ) (inner : Inner) (cs : List ℕ) (s name : Stretch) (index : List ℕ) (x : Parts) (rest : List ℕ) → after_name false cs ≡ open_paren ∷ index → inner.index index ≡ Ok (x, rest) → Stands size cs name (open_paren ∷ index) → Stands size (dollar ∷ cs) s rest
    → variable_at size inner (dollar ∷ cs) ≡ Ok (elem_ s name x, rest)
unfolding variable_at
element_at size inner cs s name index x rest e i n w =
    rw ((paren_variable cs index e).1, e, i, stands_is size (dollar ∷ cs) s rest w, stands_is size cs name (open_paren ∷ index) n) refl

script_at : (size : ℕ) (inner : Inner) (cs : List ℕ) (s inside : Stretch) (rest : List ℕ) → inner.bracket cs ≡ Ok (close_bracket ∷ rest) → Stands size cs inside (close_bracket ∷ rest) → Stands size (open_bracket ∷ cs) s rest
    → bracket_at size inner (open_bracket ∷ cs) ≡ Ok (bracket s inside, rest)
script_at size inner cs s inside rest c n w = rw (c, stands_is size (open_bracket ∷ cs) s rest w, stands_is size cs inside (close_bracket ∷ rest) n) refl

piece_by : (size : ℕ) (inner : Inner) (m : Mode) (k : Kind) (cs : List ℕ) (p : Part) (rest : List ℕ) → kind_of m cs ≡ k → piece_of size inner m k cs ≡ Ok (Some p, rest) → piece_at size inner m cs ≡ Ok (Some p, rest)
unfolding piece_at
piece_by size inner m k cs p rest e h = ap (λ (x : Kind). piece_of size inner m x cs) e ∙ h

pub piece_by_err : (size : ℕ) (inner : Inner) (m : Mode) (k : Kind) (cs : List ℕ) (e : Syntax) → kind_of m cs ≡ k → piece_of size inner m k cs ≡ Err e → piece_at size inner m cs ≡ Err e
unfolding piece_at
piece_by_err size inner m k cs e is h = ap (λ (x : Kind). piece_of size inner m x cs) is ∙ h

pub piece_read : (size levels : ℕ) (ends : List ℕ → Bool) (cs : List ℕ) (p : Part) (rest : List ℕ) → Piece size levels ends cs p rest → NestRead size levels → (m : Mode) → ends ≡ ends_pieces m → ends_pieces m cs ≡ false
    → piece_at size (inner_at size levels) m cs ≡ Ok (Some p, rest)
piece_read size _ _ _ _ _ (Piece.plain levels ends cs s rest r w) below m e h =
    let run : PlainRun (ends_pieces m) cs rest = subst (λ f. PlainRun f cs rest) e r in
    piece_by size (inner_at size levels) m kind.Plain cs (text s) rest (kind_plain m cs (run_front (ends_pieces m) cs rest run)) (rw (run_read m cs rest run, stands_is size cs s rest w) refl)
piece_read size _ _ _ _ _ (Piece.escaped levels ends cs s rest r w) below m e h =
    piece_by size (inner_at size levels) m kind.Backslashed (backslash ∷ cs) (escape s (escape_of (backslash ∷ cs)).0) rest (kind_escape m cs h) (rw (sym r, stands_is size (backslash ∷ cs) s rest w) refl)
piece_read size _ _ _ _ _ (Piece.variable levels ends cs s name rest b l p n w) below m e h =
    piece_by size (inner_at size levels) m kind.Variable (dollar ∷ cs) (var s name) rest (kind_variable m cs h (name_variable cs b).0) (rw (name_at size (inner_at size levels) cs s name rest b l p n w) refl)
piece_read size _ _ _ _ _ (Piece.braced_variable levels ends cs s name rest l n w) below m e h =
    let close : at_variable_brace cs ≡ Ok (close_brace ∷ rest) = ap at_variable_brace n.joined ∙ variable_brace_read name.text rest l in
    piece_by size (inner_at size levels) m kind.Variable (dollar ∷ open_brace ∷ cs) (var s name) rest (kind_variable m (open_brace ∷ cs) h refl) (rw (braced_name_at size (inner_at size levels) cs s name rest close n w) refl)
piece_read size _ _ _ _ _ (Piece.element levels k ends cs s name index ps rest v l n i w) below m e h =
    let at : after_name false cs ≡ open_paren ∷ index = name_read cs name.text (open_paren ∷ index) n.joined l in
    piece_by size (inner_at size levels) m kind.Variable (dollar ∷ cs) (elem_ s name (parts_of ps)) rest (kind_variable m cs h (paren_variable cs index at).0)
    (rw (element_at size (inner_at size levels) cs s name index (parts_of ps) rest at (below.index k index ps rest v i) n w) refl)
piece_read size _ _ _ _ _ (Piece.script levels k ends cs s inside commands rest v n c w) below m e h =
    piece_by size (inner_at size levels) m kind.Opening (open_bracket ∷ cs) (bracket s inside) rest (kind_bracket m cs h) (rw (script_at size (inner_at size levels) cs s inside rest (below.script k cs commands rest v c) n w) refl)

no_piece : (size : ℕ) (inner : Inner) (m : Mode) (cs : List ℕ) → ends_pieces m cs ≡ true → piece_at size inner m cs ≡ Ok (None, cs)
unfolding piece_at
no_piece size inner m cs e = ap (λ (x : Kind). piece_of size inner m x cs) (kind_end m cs e)

pub pieces_read : (size levels : ℕ) (ends : List ℕ → Bool) (cs : List ℕ) (ps : List Part) (rest : List ℕ) → Pieces size levels ends cs ps rest → NestRead size levels → (m : Mode) → ends ≡ ends_pieces m
    → pieces_at size (inner_at size levels) m cs ≡ Ok (ps, rest)
unfolding pieces_at
pieces_read size _ _ _ _ _ (Pieces.done levels ends rest h) below m e =
    last_turn (piece_at size (inner_at size levels) m) rest rest (no_piece size (inner_at size levels) m rest (ap (λ (f : List ℕ → Bool). f rest) (sym e) ∙ h))
pieces_read size _ _ _ _ _ (Pieces.piece levels ends cs p after ps rest h q k) below m e =
    one_turn (piece_at size (inner_at size levels) m) cs p after (forward_shrinks (piece_at size (inner_at size levels) m) (piece_forward size (inner_at size levels) (inner_inside size levels) m))
    (piece_read size levels ends cs p after q below m e (ap (λ (f : List ℕ → Bool). f cs) (sym e) ∙ h)) ∙ ap (with_front (p ∷ [])) (pieces_read size levels ends after ps rest k below m e)

-- ---- words

abbrev shape : Form → Bool → List Part → Shape
shape f expands ps = record { form = f; expands = expands; pieces = ps }

pub quoted_read : (size levels : ℕ) (cs : List ℕ) (ps : List Part) (rest : List ℕ) → NestRead size levels → Pieces size levels (begins quote) cs ps (quote ∷ rest) → quoted_at size (inner_at size levels) (quote ∷ cs) ≡ Ok (ps, rest)
unfolding quoted_at
quoted_read size levels cs ps rest below k = rw (pieces_read size levels (begins quote) cs ps (quote ∷ rest) k below mode.Quoted refl) refl

body_read : (size levels : ℕ) (nested : Bool) (cs : List ℕ) (f : Form) (ps : List Part) (rest : List ℕ) → Body size levels nested cs f ps rest → NestRead size levels → (expands : Bool) → ends_word nested rest ≡ true
    → (word_of size (inner_at size levels) nested expands f cs ≡ Ok (shape f expands ps, rest)) × (form_of cs ≡ f)
body_read size _ _ _ _ _ _ (Body.braced levels nested cs inside ps rest e b i) below expands stop = (rw (braced_read size cs inside ps rest e b i, stop) refl, refl)
body_read size _ _ _ _ _ _ (Body.quoted levels nested cs ps rest k) below expands stop = (rw (quoted_read size levels cs ps rest below k, stop) refl, refl)
body_read size _ _ _ _ _ _ (Body.bare levels nested cs ps rest b q k) below expands stop = (rw (pieces_read size levels (ends_word nested) cs ps rest k below (mode.Bare nested) refl) refl, rw (b, q) refl)

abbrev behind_first : Result (List ℕ) Syntax → List ℕ
behind_first (Ok cs) = tail cs
behind_first (Err m) = []

same_rest : (a b : List ℕ) (r : Result (List ℕ) Syntax) → r ≡ Ok (close_brace ∷ a) → r ≡ Ok (close_brace ∷ b) → a ≡ b
same_rest a b r e f = sym (ap behind_first e) ∙ ap behind_first f

-- `{*}` before a word is no word of its own
mark_alone : (nested : Bool) (third inside rest : List ℕ) → Balanced inside → star ∷ close_brace ∷ third ≡ inside ++ close_brace ∷ rest → ends_word nested rest ≡ true → ends_word nested third ≡ false → ⊥
unfolding at_brace
mark_alone nested third inside rest b e stop goes_on =
    let same : third ≡ rest = same_rest third rest (at_brace false 0 (star ∷ close_brace ∷ third)) refl (ap (at_brace false 0) e ∙ braces_read inside rest b) in
    true≢false (sym stop ∙ ap (ends_word nested) (sym same) ∙ goes_on)

body_unmarked : (size levels : ℕ) (nested : Bool) (cs : List ℕ) (f : Form) (ps : List Part) (rest : List ℕ) → Body size levels nested cs f ps rest → ends_word nested rest ≡ true → marked nested cs ≡ true → ⊥
body_unmarked size _ _ _ _ _ _ (Body.braced levels nested cs inside ps rest e b i) stop starred =
    let (at, goes_on) = mark_parts nested (open_brace ∷ cs) starred in
    mark_alone nested (tail (tail cs)) inside rest b (ap tail (sym at) ∙ e) stop goes_on
body_unmarked size _ _ _ _ _ _ (Body.quoted levels nested cs ps rest k) stop starred = true≢false (sym starred)
body_unmarked size _ _ _ _ _ _ (Body.bare levels nested cs ps rest b q k) stop starred =
    let (at, goes_on) = mark_parts nested cs starred in
    true≢false (ap (begins open_brace) (sym at) ∙ b)

not_marked : (b : Bool) → (b ≡ true → ⊥) → b ≡ false
not_marked true h = absurd (h refl)
not_marked false h = refl

pub word_read : (size levels : ℕ) (nested : Bool) (cs : List ℕ) (w : Shape) (rest : List ℕ) → Word size levels nested cs w rest → NestRead size levels → word_at size (inner_at size levels) nested cs ≡ Ok (w, rest)
unfolding word_at
word_read size _ _ _ _ _ (Word.without_mark levels nested cs f ps rest b stop) below =
    let (is, formed) = body_read size levels nested cs f ps rest b below false stop in
    rw (not_marked (marked nested cs) (body_unmarked size levels nested cs f ps rest b stop), formed) is
word_read size _ _ _ _ _ (Word.behind_mark levels nested cs f ps rest goes_on b stop) below =
    let (is, formed) = body_read size levels nested cs f ps rest b below true stop in
    rw (goes_on, formed) is

-- ---- commands

no_word : (size : ℕ) (inner : Inner) (nested : Bool) (cs rest : List ℕ) → after_blanks cs ≡ rest → ends_word nested rest ≡ true → next_word size inner nested cs ≡ Ok (None, rest)
unfolding next_word
no_word size inner nested cs rest e stop = rw (e, stop) refl

pub one_word : (size : ℕ) (inner : Inner) (nested : Bool) (cs here : List ℕ) (w : Shape) (rest : List ℕ) → after_blanks cs ≡ here → ends_word nested here ≡ false → word_at size inner nested here ≡ Ok (w, rest)
    → next_word size inner nested cs ≡ Ok (Some w, rest)
unfolding next_word
one_word size inner nested cs here w rest e more h = rw (e, more, h) refl

words_read : (size levels : ℕ) (nested : Bool) (cs : List ℕ) (ws : List Shape) (rest : List ℕ) → Words size levels nested cs ws rest → NestRead size levels → ends_word nested rest ≡ true → after_blanks rest ≡ rest
    → words_at size (inner_at size levels) nested cs ≡ Ok (ws, rest)
unfolding words_at
words_read size _ _ _ _ _ (Words.blanks_alone levels nested cs rest b) below stop solid =
    last_turn (next_word size (inner_at size levels) nested) cs rest (no_word size (inner_at size levels) nested cs rest (blanks_read cs rest b solid) stop)
words_read size _ _ _ _ _ (Words.word levels nested cs here w after ws rest b more h k) below stop solid =
    one_turn (next_word size (inner_at size levels) nested) cs w after (forward_shrinks (next_word size (inner_at size levels) nested) (word_forward size (inner_at size levels) (inner_inside size levels) nested))
    (one_word size (inner_at size levels) nested cs here w after (blanks_read cs here b (solid_blanks nested here more)) more (word_read size levels nested here w after h below))
    ∙ ap (with_front (w ∷ [])) (words_read size levels nested after ws rest k below stop solid)

pub command_read : (size levels : ℕ) (nested : Bool) (cs : List ℕ) (ws : List Shape) (rest : List ℕ) → Command size levels nested cs ws rest → NestRead size levels → first_at size (inner_at size levels) nested cs ≡ Ok (Some ws, rest)
unfolding first_at
command_read size _ _ _ _ _ (Command.command levels nested cs here ws stop rest s n more k e) below =
    let (ends, solid, after) = end_read nested stop rest e in
    rw (separators_read cs here s (solid_gaps nested here more n), more, words_read size levels nested here ws stop k below ends solid, after) refl

pub none_read : (size : ℕ) (inner : Inner) (nested : Bool) (cs rest : List ℕ) → NoCommand nested cs rest → first_at size inner nested cs ≡ Ok (None, rest)
unfolding first_at
none_read size inner nested cs rest h = rw (separators_read cs rest h.separators (script_gaps nested rest h.stops), script_ends_word nested rest h.stops) refl

pub commands_read : (size levels : ℕ) (nested : Bool) (cs : List ℕ) (wss : List (List Shape)) (rest : List ℕ) → Commands size levels nested cs wss rest → NestRead size levels
    → commands_at size (inner_at size levels) nested cs ≡ Ok (wss, rest)
unfolding commands_at
commands_read size _ _ _ _ _ (Commands.separators_alone levels nested cs rest s e) below =
    last_turn (first_at size (inner_at size levels) nested) cs rest (none_read size (inner_at size levels) nested cs rest (record { separators = s; stops = e }))
commands_read size _ _ _ _ _ (Commands.next levels nested cs ws after wss rest c k) below =
    one_turn (first_at size (inner_at size levels) nested) cs ws after (forward_shrinks (first_at size (inner_at size levels) nested) (first_forward size (inner_at size levels) (inner_inside size levels) nested))
    (command_read size levels nested cs ws after c below) ∙ ap (with_front (ws ∷ [])) (commands_read size levels nested after wss rest k below)

-- ---- one level more

script_read : (size n k : ℕ) (cs : List ℕ) (commands : List (List Shape)) (rest : List ℕ) → suc n ≡ suc k → NestRead size n → Commands size k true cs commands (close_bracket ∷ rest) → (inner_at size (suc n)).bracket cs ≡ Ok (close_bracket ∷ rest)
unfolding inner_at after_commands
script_read size n k cs commands rest e below c =
    let same : k ≡ n = omega (arith, e) in
    rw (commands_read size n true cs commands (close_bracket ∷ rest) (subst (λ j. Commands size j true cs commands (close_bracket ∷ rest)) same c) below) refl

index_read : (size n k : ℕ) (cs : List ℕ) (ps : List Part) (rest : List ℕ) → suc n ≡ suc k → NestRead size n → Pieces size k (begins close_paren) cs ps (close_paren ∷ rest) → (inner_at size (suc n)).index cs ≡ Ok (parts_of ps, rest)
unfolding inner_at
index_read size n k cs ps rest e below i =
    let same : k ≡ n = omega (arith, e) in
    rw (pieces_read size n (begins close_paren) cs ps (close_paren ∷ rest) (subst (λ j. Pieces size j (begins close_paren) cs ps (close_paren ∷ rest)) same i) below mode.Index refl) refl

pub nest_read : (size levels : ℕ) → NestRead size levels
nest_read size zero = record { script = λ n cs commands rest e c. absurd (omega (arith, e)); index = λ n cs ps rest e i. absurd (omega (arith, e)) }
nest_read size (suc n) =
    let below = nest_read size n in
    record { script = λ k cs commands rest e c. script_read size n k cs commands rest e below c; index = λ k cs ps rest e i. index_read size n k cs ps rest e below i }
