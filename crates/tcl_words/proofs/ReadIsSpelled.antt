-- What is read is spelled so.
use Rattle.std.proofs.Common.{◌≡◌, ℕ, zero, suc, ◌+◌, ◌<◌, Bool, true, false, cond, not, ◌&&◌, ◌||◌, ◌==◌, List, [], ◌∷◌, ◌++◌, length, drop, Option, Some, None, Result, Ok, Err, refl, sym, ap, subst, ◌∙◌, arith, inl, inr}
use Rattle.std.specs.Prelude.{IfOk}
use Rattle.std.proofs.lemmas.Bool.{cases_Bool, and_parts, or_from, eqb-true, true≢false}
use Rattle.std.proofs.Math.Bool.{and-false}
use Rattle.tcl_chars.specs.Characters.{newline, space, backslash, semicolon, number_sign, dollar, quote, open_bracket, close_bracket, open_brace, close_brace, open_paren, close_paren, star}
use Rattle.tcl_chars.specs.Classes.{is_word_space}
use Rattle.tcl_chars.specs.Escape.{blanks, escape as escape_of, escape_of as escape_by}
use Rattle.tcl_chars.specs.Place.{EndsWith, begins, tail, before, place}
use Rattle.tcl_chars.specs.Reading.{◌>>=◌, Reading, with_front, after_turn, turns, all_turns}
use Rattle.tcl_chars.proofs.SpelledIndices.{before_front, cut_at}
use Rattle.tcl_chars.proofs.Turns.{Shrinks, shorter}
use Rattle.tcl_words.specs.declared.blanks.Gap.{Gap}
use Rattle.tcl_words.specs.declared.blanks.Gap.TheVariants as gap
use Rattle.tcl_words.specs.declared.fault.Syntax.{Syntax}
use Rattle.tcl_words.specs.declared.fault.Syntax.TheVariants.{AfterBrace, AfterQuote}
use Rattle.tcl_words.specs.declared.front.Kind.{Kind}
use Rattle.tcl_words.specs.declared.front.Kind.TheVariants as kind
use Rattle.tcl_words.specs.declared.front.Mode.{Mode}
use Rattle.tcl_words.specs.declared.front.Mode.TheVariants as mode
use Rattle.tcl_words.specs.declared.word.Form.{Form}
use Rattle.tcl_words.specs.declared.word.Form.TheVariants as form
use Rattle.tcl_words.specs.Parts.{Part, Parts, parts_of, escape, var, elem_, bracket, Shape}
use Rattle.tcl_words.specs.Spelling.{Stands, Blanks, CommandEnd, ends_script, ends_word, IsLongestName, begins_name, begins_variable, lacks, Balanced, Inside, Piece, Pieces, Body, Word, Words, Command, Commands, NoCommand}
use Rattle.tcl_words.specs.Words.{after_blanks, after_gaps, after_name, after_plain, after_command, at_variable_brace, at_brace, begins_hidden_newline, verbatim_at, braced_at, kind_of, ends_pieces, marked, form_of, closed as closed_word, stretch, Inner, inner_at, named, variable_at, bracket_at, piece_of, piece_at, pieces_at, quoted_at, word_of, word_at, next_word, words_at, first_at, commands_at, after_commands, closing}
use Rattle.tcl_chars.proofs.Ends.{ends_self, ends_more, ends_trans, ends_tail, ends_drop, if_cond, if_bind, if_weak, if_both, if_ok, forward_shrinks}
use Rattle.tcl_words.proofs.Forward.{plain_end, name_end, verbatim_end, verbatim_forward, piece_forward, word_forward, first_forward, inner_inside, variable_brace_end}
use Rattle.tcl_words.proofs.ScansSpelled.{one_is, two_are, blanks_spelled, gaps_spelled, run_spelled, name_spelled, no_name_here, variable_brace_spelled, VariableSpelled, braces_spelled, hidden_spelled}

-- ---- turns

-- what one turn adds to a relation
abbrev pub Turn : {A : Type 0} → (List ℕ → List A → List ℕ → Type 0) → List ℕ → Option A → List ℕ → Type 0
Turn R cs None rest = R cs [] rest
Turn R cs (Some x) rest = (xs : List _) (end : List ℕ) → R rest xs end → R cs (x ∷ xs) end

front_gives : {A : Type 0} (R : List ℕ → List A → List ℕ → Type 0) (cs : List ℕ) (x : A) (rest : List ℕ) (r : Result (List A × List ℕ) Syntax) → Turn R cs (Some x) rest → IfOk r (λ y. R rest y.0 y.1)
    → IfOk (with_front (x ∷ []) r) (λ y. R cs y.0 y.1)
front_gives R cs x rest (Ok y) h k = h y.0 y.1 k
front_gives R cs x rest (Err m) h k = tt

turn_gives : {A : Type 0} (R : List ℕ → List A → List ℕ → Type 0) (cs : List ℕ) (next : Reading Syntax (List A)) (r : Result (Option A × List ℕ) Syntax) → IfOk r (λ t. Turn R cs t.0 t.1)
    → ((x : A) (rest : List ℕ) → r ≡ Ok (Some x, rest) → IfOk (next rest) (λ y. R rest y.0 y.1)) → IfOk (r >>= λ t. after_turn next t.0 t.1) (λ y. R cs y.0 y.1)
turn_gives R cs next (Err m) h k = tt
turn_gives R cs next (Ok (None, rest)) h k = h
turn_gives R cs next (Ok (Some x, rest)) h k = front_gives R cs x rest (next rest) h (k x rest refl)

turns_give_n : {A : Type 0} (R : List ℕ → List A → List ℕ → Type 0) (step : Reading Syntax (Option A)) (n : ℕ) (cs : List ℕ) → Shrinks step → ((ds : List ℕ) → IfOk (step ds) (λ t. Turn R ds t.0 t.1)) → length cs < n
    → IfOk (turns step n cs) (λ y. R cs y.0 y.1)
unfolding turns
turns_give_n R step zero cs h each l = absurd (omega arith)
turns_give_n R step (suc n) cs h each l = turn_gives R cs (turns step n) (step cs) (each cs) (λ x rest e. turns_give_n R step n rest h each (omega (arith, shorter step cs x rest h e)))

turns_give : {A : Type 0} (R : List ℕ → List A → List ℕ → Type 0) (step : Reading Syntax (Option A)) (cs : List ℕ) → Shrinks step → ((ds : List ℕ) → IfOk (step ds) (λ t. Turn R ds t.0 t.1))
    → IfOk (all_turns step cs) (λ y. R cs y.0 y.1)
unfolding all_turns
turns_give R step cs h each = turns_give_n R step (suc (length cs)) cs h each (omega arith)

-- ---- stretches

-- the text before a rest
pub front_is : (cs front rest : List ℕ) → cs ≡ front ++ rest → before cs rest ≡ front
front_is cs front rest e = ap (λ t. before t rest) e ∙ before_front front rest

pub headed : (c : ℕ) (cs : List ℕ) → begins c cs ≡ true → cs ≡ c ∷ tail cs
headed c [] h = absurd cc
headed c (d ∷ cs) h = ap (λ x. x ∷ cs) (eqb-true d c h)

pub stands : (size : ℕ) (cs rest : List ℕ) → EndsWith cs rest → Stands size cs (stretch size cs rest) rest
stands size cs rest e = record { start = refl; joined = cut_at cs rest e }

pub stands_before : (size : ℕ) (cs rest : List ℕ) (c : ℕ) → EndsWith cs rest → begins c rest ≡ true → Stands size cs (stretch size cs rest) (c ∷ tail rest)
stands_before size cs rest c e b = record { start = refl; joined = cut_at cs rest e ∙ ap (λ t. before cs rest ++ t) (headed c rest b) }

-- ---- the text inside braces

pub drop_two : (n c d : ℕ) (cs : List ℕ) → drop (n + 2) (c ∷ d ∷ cs) ≡ drop n cs
drop_two n c d cs = let e : n + 2 ≡ suc (suc n) = omega arith in ap (λ m. drop m (c ∷ d ∷ cs)) e

abbrev InsideTurn : ℕ → List ℕ → Option Part → List ℕ → Type 0
InsideTurn size = Turn (λ cs ps rest. Inside size cs ps)

newline_turn : (size : ℕ) (cs : List ℕ) → (let here = backslash ∷ newline ∷ cs in let rest = drop (escape_of here).1 here in InsideTurn size here (Some (escape (stretch size here rest) (escape_of here).0)) rest)
unfolding escape_by
newline_turn size cs =
    let here = backslash ∷ newline ∷ cs in
    subst (λ rest. InsideTurn size here (Some (escape (stretch size here rest) space)) rest) (sym (drop_two (blanks cs) backslash newline cs))
    (λ ps end i. Inside.one_space cs _ ps (stands size here (drop (blanks cs) cs) (ends_more backslash (newline ∷ cs) _ (ends_more newline cs _ (ends_drop (blanks cs) cs)))) i)

hidden_turn : (size c : ℕ) (cs : List ℕ) → begins_hidden_newline (c ∷ cs) ≡ true
    → (let here = c ∷ cs in let rest = drop (escape_of here).1 here in InsideTurn size here (Some (escape (stretch size here rest) (escape_of here).0)) rest)
hidden_turn size c [] h = absurd (true≢false (sym (and_parts (c == backslash) false h).1))
hidden_turn size c (d ∷ cs) h =
    two_are (λ x y. let here = x ∷ y ∷ cs in let rest = drop (escape_of here).1 here in InsideTurn size here (Some (escape (stretch size here rest) (escape_of here).0)) rest) c d backslash newline h (newline_turn size cs)

verbatim_turn : (size : ℕ) (cs : List ℕ) → IfOk (verbatim_at size cs) (λ t. InsideTurn size cs t.0 t.1)
unfolding verbatim_at
verbatim_turn size [] = Inside.nothing
verbatim_turn size (c ∷ cs) = elim (cases_Bool (begins_hidden_newline (c ∷ cs))) [
  | inl h ↦ rw h (hidden_turn size c cs h)
  | inr h ↦ rw h (λ ps end i. Inside.verbatim c cs _ _ ps h (hidden_spelled (c ∷ cs)) (stands size (c ∷ cs) _ (verbatim_end (c ∷ cs))) i)
]

inside_spelled : (size : ℕ) (cs : List ℕ) → IfOk (all_turns (verbatim_at size) cs) (λ x. Inside size cs x.0)
inside_spelled size cs = turns_give (λ ds ps rest. Inside size ds ps) (verbatim_at size) cs (forward_shrinks (verbatim_at size) (verbatim_forward size)) (verbatim_turn size)

abbrev pub BracedText : ℕ → List ℕ → List Part × List ℕ → Type 0
BracedText size cs x = (inside : List ℕ) × (cs ≡ inside ++ close_brace ∷ x.1) × Balanced inside × Inside (place size (close_brace ∷ x.1)) inside x.0

braced_text : (size : ℕ) (cs inside close rest : List ℕ) (ps : List Part) → Balanced inside → cs ≡ inside ++ close → close ≡ close_brace ∷ rest → Inside (place size close) (before cs close) ps → BracedText size cs (ps, tail close)
braced_text size cs inside close rest ps b e f i =
    let at : Inside (place size close) inside ps = subst (λ t. Inside (place size close) t ps) (front_is cs inside close e) i in
    subst (λ t. cs ≡ inside ++ t → Inside (place size t) inside ps → BracedText size cs (ps, tail t)) (sym f) (λ j k. (inside, j, b, k)) e at

pub braced_spelled : (size : ℕ) (cs : List ℕ) → IfOk (braced_at size cs) (BracedText size (tail cs))
unfolding braced_at
braced_spelled size cs =
    if_bind (λ close. (inside : List ℕ) × (rest : List ℕ) × Balanced inside × (tail cs ≡ inside ++ close) × (close ≡ close_brace ∷ rest)) (BracedText size (tail cs)) (at_brace false 0 (tail cs)) _ (braces_spelled (tail cs))
    (λ close (inside, rest, b, e, f). if_bind (λ x. Inside (place size close) (before (tail cs) close) x.0) (BracedText size (tail cs)) (all_turns (verbatim_at (place size close)) (before (tail cs) close)) _
    (inside_spelled (place size close) (before (tail cs) close)) (λ x i. braced_text size (tail cs) inside close rest x.0 b e f i))

-- ---- what stands in front

abbrev pub KindIs : Kind → Bool → Bool → Bool → Bool → Type 0
KindIs kind.Ends x y z v = x ≡ true
KindIs kind.Open x y z v = ⊥
KindIs kind.Backslashed x y z v = (x ≡ false) × (y ≡ true)
KindIs kind.Opening x y z v = (x ≡ false) × (z ≡ true)
KindIs kind.Variable x y z v = (x ≡ false) × (v ≡ true)
KindIs kind.Plain x y z v = (x ≡ false) × ((not x && not y && not z && not v) ≡ true)

pub kind_facts : (x y z v : Bool) → KindIs (cond x kind.Ends (cond y kind.Backslashed (cond z kind.Opening (cond v kind.Variable kind.Plain)))) x y z v
kind_facts true y z v = refl
kind_facts false true z v = (refl, refl)
kind_facts false false true v = (refl, refl)
kind_facts false false false true = (refl, refl)
kind_facts false false false false = (refl, refl)

-- ---- where the relations end

pub pieces_end_there : (size levels : ℕ) (ends : List ℕ → Bool) (cs : List ℕ) (ps : List Part) (rest : List ℕ) → Pieces size levels ends cs ps rest → ends rest ≡ true
pieces_end_there size _ _ _ _ _ (Pieces.done levels ends rest e) = e
pieces_end_there size _ _ _ _ _ (Pieces.piece levels ends cs p after ps rest e q k) = pieces_end_there size levels ends after ps rest k

-- a piece, and pieces, are the front of their text
piece_front : (size levels : ℕ) (ends : List ℕ → Bool) (cs : List ℕ) (p : Part) (rest : List ℕ) → Piece size levels ends cs p rest → EndsWith cs rest
piece_front size _ _ _ _ _ (Piece.plain levels ends cs s rest r w) = record { front = s.text; joined = w.joined }
piece_front size _ _ _ _ _ (Piece.escaped levels ends cs s rest r w) = record { front = s.text; joined = w.joined }
piece_front size _ _ _ _ _ (Piece.variable levels ends cs s name rest b l p n w) = record { front = s.text; joined = w.joined }
piece_front size _ _ _ _ _ (Piece.braced_variable levels ends cs s name rest l n w) = record { front = s.text; joined = w.joined }
piece_front size _ _ _ _ _ (Piece.element levels k ends cs s name index ps rest v l n i w) = record { front = s.text; joined = w.joined }
piece_front size _ _ _ _ _ (Piece.script levels k ends cs s inside commands rest v n c w) = record { front = s.text; joined = w.joined }

pub pieces_front : (size levels : ℕ) (ends : List ℕ → Bool) (cs : List ℕ) (ps : List Part) (rest : List ℕ) → Pieces size levels ends cs ps rest → EndsWith cs rest
pieces_front size _ _ _ _ _ (Pieces.done levels ends rest e) = ends_self rest
pieces_front size _ _ _ _ _ (Pieces.piece levels ends cs p after ps rest e q k) = ends_trans cs after rest (piece_front size levels ends cs p after q) (pieces_front size levels ends after ps rest k)

word_end_there : (size levels : ℕ) (nested : Bool) (cs : List ℕ) (w : Shape) (rest : List ℕ) → Word size levels nested cs w rest → ends_word nested rest ≡ true
word_end_there size _ _ _ _ _ (Word.without_mark levels nested cs f ps rest b stop) = stop
word_end_there size _ _ _ _ _ (Word.behind_mark levels nested cs f ps rest goes_on b stop) = stop

pub commands_end_there : (size levels : ℕ) (nested : Bool) (cs : List ℕ) (wss : List (List Shape)) (rest : List ℕ) → Commands size levels nested cs wss rest → ends_script nested rest ≡ true
commands_end_there size _ _ _ _ _ (Commands.separators_alone levels nested cs rest s e) = e
commands_end_there size _ _ _ _ _ (Commands.next levels nested cs ws after wss rest c k) = commands_end_there size levels nested after wss rest k

-- ---- ends of words and commands

abbrev begins_blank : List ℕ → Bool
begins_blank [] = false
begins_blank (c ∷ cs) = is_word_space c || (c == backslash && begins newline cs)

abbrev begins_gap : List ℕ → Bool
begins_gap [] = false
begins_gap (c ∷ cs) = is_word_space c || c == newline || c == semicolon || (c == backslash && begins newline cs) || c == number_sign

blanks_passed : (cs : List ℕ) → begins_blank (after_blanks cs) ≡ false
unfolding after_blanks
blanks_passed [] = refl
blanks_passed (c ∷ []) = elim (cases_Bool (is_word_space c)) [
  | inl s ↦ rw s refl
  | inr s ↦ rw s (or_from (is_word_space c) (c == backslash && begins newline []) s (and-false (c == backslash)))
]
blanks_passed (c ∷ d ∷ cs) = elim (cases_Bool (is_word_space c)) [
  | inl s ↦ rw s (blanks_passed (d ∷ cs))
  | inr s ↦ elim (cases_Bool (c == backslash && d == newline)) [
    | inl h ↦ rw (s, h) (blanks_passed cs)
    | inr h ↦ rw (s, h) (or_from (is_word_space c) (c == backslash && d == newline) s h)
  ]
]

pub gaps_passed : (g : Gap) (cs : List ℕ) → begins_gap (after_gaps g cs) ≡ false
unfolding after_gaps
gaps_passed gap.Between [] = refl
gaps_passed (gap.Comment h) [] = refl
gaps_passed gap.Between (c ∷ cs) = elim (cases_Bool (is_word_space c || c == newline || c == semicolon || (c == backslash && begins newline cs))) [
  | inl s ↦ rw s (gaps_passed gap.Between cs)
  | inr s ↦ elim (cases_Bool (c == number_sign)) [
    | inl n ↦ rw (s, n) (gaps_passed (gap.Comment false) cs)
    | inr n ↦ rw (s, n) (or_from _ _ s n)
  ]
]
gaps_passed (gap.Comment h) (c ∷ cs) =
    if_cond (λ t. begins_gap t ≡ false) h _ _ (gaps_passed (gap.Comment false) cs)
    (if_cond (λ t. begins_gap t ≡ false) (c == newline) _ _ (gaps_passed gap.Between cs) (gaps_passed (gap.Comment (c == backslash)) cs))

-- one of five tests, without the first or the last
which_end : (a b d e f : Bool) → (a || b || d || e || f) ≡ true → (a || f) ≡ false → ((b || d) ≡ false → e ≡ true)
which_end true b d e f h n = absurd (true≢false n)
which_end false b d e true h n = absurd (true≢false n)
which_end false true d e false h n = λ o. absurd (true≢false o)
which_end false false true e false h n = λ o. absurd (true≢false o)
which_end false false false e false h n = λ o. or_false_right e h
  where
    or_false_right : (e : Bool) → (e || false) ≡ true → e ≡ true
    or_false_right true k = refl
    or_false_right false k = k

command_end : (nested : Bool) (cs : List ℕ) → ends_word nested cs ≡ true → begins_blank cs ≡ false → CommandEnd nested cs (after_command cs)
command_end nested [] e n = CommandEnd.at_end
command_end nested (c ∷ cs) e n = elim (cases_Bool (c == newline || c == semicolon)) [
  | inl s ↦ elim (cases_Bool (c == close_bracket)) [
    | inl b ↦ absurd (one_is (λ x. (x == newline || x == semicolon) ≡ true → ⊥) c close_bracket b (λ k. true≢false (sym k)) s)
    | inr b ↦ rw b (CommandEnd.at_separator c cs s)
  ]
  | inr s ↦
      let last : (nested && c == close_bracket) ≡ true = which_end (is_word_space c) (c == newline) (c == semicolon) (nested && c == close_bracket) (c == backslash && begins newline cs) e n s in
      let both = and_parts nested (c == close_bracket) last in
      one_is (λ x. CommandEnd nested (x ∷ cs) (after_command (x ∷ cs))) c close_bracket both.1 (CommandEnd.at_bracket cs both.0)
]

script_end_by : (a b d e f g : Bool) → (a || b || d || e || f) ≡ true → (a || b || d || f || g) ≡ false → e ≡ true
script_end_by true b d e f g h n = absurd (true≢false n)
script_end_by false true d e f g h n = absurd (true≢false n)
script_end_by false false true e f g h n = absurd (true≢false n)
script_end_by false false false e true g h n = absurd (true≢false n)
script_end_by false false false true false g h n = refl
script_end_by false false false false false g h n = h

script_end : (nested : Bool) (cs : List ℕ) → ends_word nested cs ≡ true → begins_gap cs ≡ false → ends_script nested cs ≡ true
script_end nested [] e n = refl
script_end nested (c ∷ cs) e n = script_end_by (is_word_space c) (c == newline) (c == semicolon) (nested && c == close_bracket) (c == backslash && begins newline cs) (c == number_sign) e n

pub no_comment : (cs : List ℕ) → begins_gap cs ≡ false → begins number_sign cs ≡ false
no_comment [] n = refl
no_comment (c ∷ cs) n = last_false (is_word_space c || c == newline || c == semicolon || (c == backslash && begins newline cs)) (c == number_sign) n
  where
    last_false : (a b : Bool) → (a || b) ≡ false → b ≡ false
    last_false true b e = absurd (true≢false e)
    last_false false b e = e

-- ---- variables

or_cases : (a b : Bool) → (a || b) ≡ true → b ≡ false → a ≡ true
or_cases true b e f = refl
or_cases false b e f = absurd (true≢false (sym e ∙ f))

begins_named : (cs : List ℕ) → begins_variable cs ≡ true → begins open_brace cs ≡ false → begins open_paren (after_name false cs) ≡ false → begins_name cs ≡ true
begins_named [] b o p = absurd (true≢false (sym b))
begins_named (c ∷ cs) b o p = elim (cases_Bool (begins_name (c ∷ cs))) [
  | inl n ↦ n
  | inr n ↦
      let here : begins open_paren (c ∷ cs) ≡ false = ap (begins open_paren) (sym (no_name_here (c ∷ cs) n)) ∙ p in
      or_cases (begins_name (c ∷ cs)) (c == open_brace) (or_cases (begins_name (c ∷ cs) || c == open_brace) (c == open_paren) b here) o
]

pub longest_before : (cs : List ℕ) → IsLongestName cs (before cs (after_name false cs))
longest_before cs = let (name, e, l) = name_spelled cs in subst (IsLongestName cs) (sym (front_is cs name (after_name false cs) e)) l

-- ---- forms and marks

abbrev pub FormIs : Form → Bool → Bool → Type 0
FormIs form.Braced b q = b ≡ true
FormIs form.Quoted b q = q ≡ true
FormIs form.Bare b q = (b ≡ false) × (q ≡ false)

pub form_facts : (b q : Bool) → FormIs (cond b form.Braced (cond q form.Quoted form.Bare)) b q
form_facts true q = refl
form_facts false true = refl
form_facts false false = (refl, refl)

pub mark_parts : (nested : Bool) (cs : List ℕ) → marked nested cs ≡ true → (cs ≡ open_brace ∷ star ∷ close_brace ∷ tail (tail (tail cs))) × (ends_word nested (tail (tail (tail cs))) ≡ false)
mark_parts nested cs e =
    let front = and_parts (begins open_brace cs && begins star (tail cs) && begins close_brace (tail (tail cs))) (not (ends_word nested (tail (tail (tail cs))))) e in
    let third = and_parts (begins open_brace cs && begins star (tail cs)) (begins close_brace (tail (tail cs))) front.0 in
    let second = and_parts (begins open_brace cs) (begins star (tail cs)) third.0 in
    let is_mark : cs ≡ open_brace ∷ star ∷ close_brace ∷ tail (tail (tail cs)) =
    headed open_brace cs second.0 ∙ ap (λ t. open_brace ∷ t) (headed star (tail cs) second.1 ∙ ap (λ t. star ∷ t) (headed close_brace (tail (tail cs)) third.1)) in
    (is_mark, not_true (ends_word nested (tail (tail (tail cs)))) front.1)
  where
    not_true : (b : Bool) → not b ≡ true → b ≡ false
    not_true true h = absurd (true≢false (sym h))
    not_true false h = refl

-- ---- pieces, words and commands, where the same is known of what nests

-- a script and its `]`; the pieces of an index
abbrev pub ScriptSpelled : ℕ → ℕ → List ℕ → List ℕ → Type 0
ScriptSpelled size levels cs close =
    (below : ℕ) × (rest : List ℕ) × (commands : List (List Shape)) × (levels ≡ suc below) × (close ≡ close_bracket ∷ rest) × Commands size below true cs commands (close_bracket ∷ rest)

abbrev pub IndexSpelled : ℕ → ℕ → List ℕ → Parts × List ℕ → Type 0
IndexSpelled size levels cs x = (below : ℕ) × (ps : List Part) × (levels ≡ suc below) × (x.0 ≡ parts_of ps) × Pieces size below (begins close_paren) cs ps (close_paren ∷ x.1)

-- what the first command is
abbrev pub FirstSpelled : ℕ → ℕ → Bool → List ℕ → Option (List Shape) → List ℕ → Type 0
FirstSpelled size levels nested cs None rest = NoCommand nested cs rest
FirstSpelled size levels nested cs (Some ws) rest = Command size levels nested cs ws rest

pub record NestSpelled (size levels : ℕ) : Type 0 where
  pub script : (cs : List ℕ) → IfOk ((inner_at size levels).bracket cs) (ScriptSpelled size levels cs)
  pub index : (cs : List ℕ) → IfOk ((inner_at size levels).index cs) (IndexSpelled size levels cs)

module _ (size levels : ℕ) (below : NestSpelled size levels) where
  abbrev inner : Inner
  inner = inner_at size levels

  -- ---- brackets and variables

  script_piece : (ends : List ℕ → Bool) (cs close : List ℕ) → ScriptSpelled size levels cs close → EndsWith cs close
      → Piece size levels ends (open_bracket ∷ cs) (bracket (stretch size (open_bracket ∷ cs) (tail close)) (stretch size cs close)) (tail close)
  script_piece ends cs close (n, rest, commands, l, e, k) w =
      subst (λ t. EndsWith cs t → Piece size levels ends (open_bracket ∷ cs) (bracket (stretch size (open_bracket ∷ cs) (tail t)) (stretch size cs t)) (tail t)) (sym e)
      (λ v. Piece.script levels n ends cs _ _ commands rest l (stands size cs (close_bracket ∷ rest) v) k (stands size (open_bracket ∷ cs) rest (ends_more open_bracket cs rest (ends_trans cs (close_bracket ∷ rest) rest v (ends_tail (close_bracket ∷ rest)))))) w

  pub bracket_spelled : (ends : List ℕ → Bool) (cs : List ℕ) → IfOk (bracket_at size inner (open_bracket ∷ cs)) (λ x. Piece size levels ends (open_bracket ∷ cs) x.0 x.1)
  bracket_spelled ends cs =
      if_bind (λ close. ScriptSpelled size levels cs close × EndsWith cs close) (λ x. Piece size levels ends (open_bracket ∷ cs) x.0 x.1) (inner.bracket cs) _
      (if_both (ScriptSpelled size levels cs) (EndsWith cs) (λ close. ScriptSpelled size levels cs close × EndsWith cs close) (inner.bracket cs) (below.script cs) ((inner_inside size levels).bracket_end cs) (λ x h k. (h, k)))
      (λ close (h, w). script_piece ends cs close h w)

  braced_variable : (ends : List ℕ → Bool) (cs close : List ℕ) → VariableSpelled cs close → EndsWith cs close
      → Piece size levels ends (dollar ∷ open_brace ∷ cs) (var (stretch size (dollar ∷ open_brace ∷ cs) (tail close)) (stretch size cs close)) (tail close)
  braced_variable ends cs close (name, rest, l, e, f) w =
      let lacking : lacks close_brace (before cs close) ≡ true = ap (lacks close_brace) (front_is cs name close e) ∙ l in
      subst (λ t. lacks close_brace (before cs t) ≡ true → EndsWith cs t → Piece size levels ends (dollar ∷ open_brace ∷ cs) (var (stretch size (dollar ∷ open_brace ∷ cs) (tail t)) (stretch size cs t)) (tail t)) (sym f)
      (λ m v. Piece.braced_variable levels ends cs _ _ rest m (stands size cs (close_brace ∷ rest) v)
      (stands size (dollar ∷ open_brace ∷ cs) rest (ends_more dollar (open_brace ∷ cs) rest (ends_more open_brace cs rest (ends_trans cs (close_brace ∷ rest) rest v (ends_tail (close_brace ∷ rest))))))) lacking w

  element_piece : (ends : List ℕ → Bool) (cs rest : List ℕ) (x : Parts × List ℕ) → rest ≡ after_name false cs → begins open_paren rest ≡ true → IndexSpelled size levels (tail rest) x → EndsWith (tail rest) x.1
      → Piece size levels ends (dollar ∷ cs) (elem_ (stretch size (dollar ∷ cs) x.1) (stretch size cs rest) x.0) x.1
  element_piece ends cs rest x r p (n, ps, l, e, k) w =
      let named_end : EndsWith cs rest = subst (EndsWith cs) (sym r) (name_end false cs) in
      let longest : IsLongestName cs (before cs rest) = subst (λ t. IsLongestName cs (before cs t)) (sym r) (longest_before cs) in
      let behind : EndsWith cs x.1 = ends_trans cs rest x.1 named_end (ends_trans rest (tail rest) x.1 (ends_tail rest) w) in
      subst (λ t. Piece size levels ends (dollar ∷ cs) (elem_ (stretch size (dollar ∷ cs) x.1) (stretch size cs rest) t) x.1) (sym e)
      (Piece.element levels n ends cs _ _ (tail rest) ps x.1 l longest (stands_before size cs rest open_paren named_end p) k (stands size (dollar ∷ cs) x.1 (ends_more dollar cs x.1 behind)))

  named_spelled : (ends : List ℕ → Bool) (cs rest : List ℕ) → rest ≡ after_name false cs → begins_variable cs ≡ true → begins open_brace cs ≡ false
      → IfOk (named size inner (dollar ∷ cs) cs rest) (λ x. Piece size levels ends (dollar ∷ cs) x.0 x.1)
  named_spelled ends cs rest r b o = elim (cases_Bool (begins open_paren rest)) [
    | inl p ↦ rw p (
        if_bind (λ x. IndexSpelled size levels (tail rest) x × EndsWith (tail rest) x.1) (λ x. Piece size levels ends (dollar ∷ cs) x.0 x.1) (inner.index (tail rest)) _
        (if_both (IndexSpelled size levels (tail rest)) (λ x. EndsWith (tail rest) x.1) (λ x. IndexSpelled size levels (tail rest) x × EndsWith (tail rest) x.1) (inner.index (tail rest)) (below.index (tail rest)) ((inner_inside size levels).index_end (tail rest)) (λ x h k. (h, k)))
        (λ x (h, w). element_piece ends cs rest x r p h w))
    | inr p ↦ rw p (
        let named_end : EndsWith cs rest = subst (EndsWith cs) (sym r) (name_end false cs) in
        let longest : IsLongestName cs (before cs rest) = subst (λ t. IsLongestName cs (before cs t)) (sym r) (longest_before cs) in
        Piece.variable levels ends cs _ _ rest (begins_named cs b o (ap (begins open_paren) (sym r) ∙ p)) longest p (stands size cs rest named_end) (stands size (dollar ∷ cs) rest (ends_more dollar cs rest named_end)))
  ]

  pub variable_spelled : (ends : List ℕ → Bool) (cs : List ℕ) → begins_variable cs ≡ true → IfOk (variable_at size inner (dollar ∷ cs)) (λ x. Piece size levels ends (dollar ∷ cs) x.0 x.1)
  unfolding variable_at
  variable_spelled ends [] b = absurd (true≢false (sym b))
  variable_spelled ends (c ∷ cs) b = elim (cases_Bool (c == open_brace)) [
    | inl o ↦ rw o (
        if_bind (λ close. VariableSpelled cs close × EndsWith cs close) (λ x. Piece size levels ends (dollar ∷ c ∷ cs) x.0 x.1) (at_variable_brace cs) _
        (if_both (VariableSpelled cs) (EndsWith cs) (λ close. VariableSpelled cs close × EndsWith cs close) (at_variable_brace cs) (variable_brace_spelled cs) (variable_brace_end cs) (λ x h k. (h, k)))
        (λ close (h, w). one_is (λ x. Piece size levels ends (dollar ∷ x ∷ cs) (var (stretch size (dollar ∷ x ∷ cs) (tail close)) (stretch size cs close)) (tail close)) c open_brace o (braced_variable ends cs close h w)))
    | inr o ↦ rw o (named_spelled ends (c ∷ cs) (after_name false (c ∷ cs)) refl b o)
  ]

  -- ---- pieces

  -- the next piece, or none where the word ends
  abbrev pub PieceIs : Mode → List ℕ → Option Part → List ℕ → Type 0
  PieceIs m cs None rest = Pieces size levels (ends_pieces m) cs [] rest
  PieceIs m cs (Some p) rest = (ends_pieces m cs ≡ false) × Piece size levels (ends_pieces m) cs p rest

  escape_turn : (m : Mode) (cs : List ℕ) → (let here = backslash ∷ cs in let rest = drop (escape_of here).1 here in Piece size levels (ends_pieces m) here (escape (stretch size here rest) (escape_of here).0) rest)
  escape_turn m cs = let here = backslash ∷ cs in let rest = drop (escape_of here).1 here in Piece.escaped levels (ends_pieces m) cs _ rest refl (stands size here rest (ends_drop (escape_of here).1 here))

  piece_of_is : (m : Mode) (k : Kind) (c : ℕ) (cs : List ℕ) → KindIs k (ends_pieces m (c ∷ cs)) (c == backslash) (c == open_bracket) (c == dollar && begins_variable cs)
      → IfOk (piece_of size inner m k (c ∷ cs)) (λ t. PieceIs m (c ∷ cs) t.0 t.1)
  piece_of_is m kind.Ends c cs h = Pieces.done levels (ends_pieces m) (c ∷ cs) h
  piece_of_is m kind.Open c cs h = absurd h
  piece_of_is m kind.Backslashed c cs (a, b) =
      (a, one_is (λ x. let here = x ∷ cs in let rest = drop (escape_of here).1 here in Piece size levels (ends_pieces m) here (escape (stretch size here rest) (escape_of here).0) rest) c backslash b (escape_turn m cs))
  piece_of_is m kind.Opening c cs (a, b) =
      if_bind (λ x. Piece size levels (ends_pieces m) (c ∷ cs) x.0 x.1) (λ t. PieceIs m (c ∷ cs) t.0 t.1) (bracket_at size inner (c ∷ cs)) _
      (one_is (λ y. IfOk (bracket_at size inner (y ∷ cs)) (λ x. Piece size levels (ends_pieces m) (y ∷ cs) x.0 x.1)) c open_bracket b (bracket_spelled (ends_pieces m) cs)) (λ x p. (a, p))
  piece_of_is m kind.Variable c cs (a, b) =
      let both = and_parts (c == dollar) (begins_variable cs) b in
      if_bind (λ x. Piece size levels (ends_pieces m) (c ∷ cs) x.0 x.1) (λ t. PieceIs m (c ∷ cs) t.0 t.1) (variable_at size inner (c ∷ cs)) _
      (one_is (λ y. IfOk (variable_at size inner (y ∷ cs)) (λ x. Piece size levels (ends_pieces m) (y ∷ cs) x.0 x.1)) c dollar both.0 (variable_spelled (ends_pieces m) cs both.1)) (λ x p. (a, p))
  piece_of_is m kind.Plain c cs (a, b) =
      (a, Piece.plain levels (ends_pieces m) (c ∷ cs) _ _ (run_spelled m c cs b) (stands size (c ∷ cs) (after_plain m (c ∷ cs)) (plain_end m (c ∷ cs))))

  pub piece_is : (m : Mode) (cs : List ℕ) → IfOk (piece_at size inner m cs) (λ t. PieceIs m cs t.0 t.1)
  unfolding piece_at kind_of
  piece_is (mode.Bare nested) [] = Pieces.done levels (ends_pieces (mode.Bare nested)) [] refl
  piece_is mode.Quoted [] = tt
  piece_is mode.Index [] = tt
  piece_is m (c ∷ cs) = piece_of_is m (kind_of m (c ∷ cs)) c cs (kind_facts (ends_pieces m (c ∷ cs)) (c == backslash) (c == open_bracket) (c == dollar && begins_variable cs))

  piece_turn : (m : Mode) (cs : List ℕ) (x : Option Part) (rest : List ℕ) → PieceIs m cs x rest → Turn (λ ds ps end. Pieces size levels (ends_pieces m) ds ps end) cs x rest
  piece_turn m cs None rest h = h
  piece_turn m cs (Some p) rest (e, q) = λ ps end k. Pieces.piece levels (ends_pieces m) cs p rest ps end e q k

  pub pieces_spelled : (m : Mode) (cs : List ℕ) → IfOk (pieces_at size inner m cs) (λ x. Pieces size levels (ends_pieces m) cs x.0 x.1)
  unfolding pieces_at
  pieces_spelled m cs =
      turns_give (λ ds ps rest. Pieces size levels (ends_pieces m) ds ps rest) (piece_at size inner m) cs (forward_shrinks (piece_at size inner m) (piece_forward size inner (inner_inside size levels) m))
      (λ ds. if_weak (λ t. PieceIs m ds t.0 t.1) (λ t. Turn (λ es ps rest. Pieces size levels (ends_pieces m) es ps rest) ds t.0 t.1) (piece_at size inner m ds) (piece_is m ds) (λ t h. piece_turn m ds t.0 t.1 h))

  -- ---- words

  abbrev BodyText : Bool → Bool → List ℕ → Shape × List ℕ → Type 0
  BodyText nested expands cs x = Body size levels nested cs x.0.form x.0.pieces x.1 × (x.0.expands ≡ expands) × (ends_word nested x.1 ≡ true)

  when_closed : (P : Shape × List ℕ → Type 0) (m : Syntax) (nested : Bool) (w : Shape) (rest : List ℕ) → (ends_word nested rest ≡ true → P (w, rest)) → IfOk (closed_word m nested w rest) P
  when_closed P m nested w rest h = elim (cases_Bool (ends_word nested rest)) [
    | inl here ↦ rw here (h here)
    | inr other ↦ rw other tt
  ]

  pub braced_body : (nested : Bool) (cs : List ℕ) (ps : List Part) (rest : List ℕ) → begins open_brace cs ≡ true → BracedText size (tail cs) (ps, rest) → Body size levels nested cs form.Braced ps rest
  braced_body nested cs ps rest b (inside, e, k, i) = subst (λ t. Body size levels nested t form.Braced ps rest) (sym (headed open_brace cs b)) (Body.braced levels nested (tail cs) inside ps rest e k i)

  pub quoted_spelled : (cs : List ℕ) → IfOk (quoted_at size inner cs) (λ x. Pieces size levels (begins quote) (tail cs) x.0 (quote ∷ x.1))
  unfolding quoted_at
  quoted_spelled cs =
      if_bind (λ x. Pieces size levels (begins quote) (tail cs) x.0 x.1) (λ x. Pieces size levels (begins quote) (tail cs) x.0 (quote ∷ x.1)) (pieces_at size inner mode.Quoted (tail cs)) _ (pieces_spelled mode.Quoted (tail cs))
      (λ x k. subst (λ t. Pieces size levels (begins quote) (tail cs) x.0 t) (headed quote x.1 (pieces_end_there size levels (begins quote) (tail cs) x.0 x.1 k)) k)

  pub quoted_body : (nested : Bool) (cs : List ℕ) (ps : List Part) (rest : List ℕ) → begins quote cs ≡ true → Pieces size levels (begins quote) (tail cs) ps (quote ∷ rest) → Body size levels nested cs form.Quoted ps rest
  quoted_body nested cs ps rest b k = subst (λ t. Body size levels nested t form.Quoted ps rest) (sym (headed quote cs b)) (Body.quoted levels nested (tail cs) ps rest k)

  word_of_spelled : (nested expands : Bool) (f : Form) (cs : List ℕ) → FormIs f (begins open_brace cs) (begins quote cs) → IfOk (word_of size inner nested expands f cs) (BodyText nested expands cs)
  word_of_spelled nested expands form.Braced cs b =
      if_bind (BracedText size (tail cs)) (BodyText nested expands cs) (braced_at size cs) _ (braced_spelled size cs)
      (λ x h. when_closed (BodyText nested expands cs) AfterBrace nested _ x.1 (λ stop. (braced_body nested cs x.0 x.1 b h, refl, stop)))
  word_of_spelled nested expands form.Quoted cs q =
      if_bind (λ x. Pieces size levels (begins quote) (tail cs) x.0 (quote ∷ x.1)) (BodyText nested expands cs) (quoted_at size inner cs) _ (quoted_spelled cs)
      (λ x h. when_closed (BodyText nested expands cs) AfterQuote nested _ x.1 (λ stop. (quoted_body nested cs x.0 x.1 q h, refl, stop)))
  word_of_spelled nested expands form.Bare cs (b, q) =
      if_bind (λ x. Pieces size levels (ends_word nested) cs x.0 x.1) (BodyText nested expands cs) (pieces_at size inner (mode.Bare nested) cs) _ (pieces_spelled (mode.Bare nested) cs)
      (λ x k. (Body.bare levels nested cs x.0 x.1 b q k, refl, pieces_end_there size levels (ends_word nested) cs x.0 x.1 k))

  -- the word, with the mark that it has
  abbrev WordWith : Bool → List ℕ → Shape → List ℕ → Bool → Type 0
  WordWith nested cs w rest expands = Word size levels nested cs (record { form = w.form; expands = expands; pieces = w.pieces }) rest

  word_spelled : (nested : Bool) (cs : List ℕ) → IfOk (word_at size inner nested cs) (λ x. Word size levels nested cs x.0 x.1)
  unfolding word_at
  word_spelled nested cs = elim (cases_Bool (marked nested cs)) [
    | inl starred ↦ rw starred (
        let third = tail (tail (tail cs)) in
        let (at, goes_on) = mark_parts nested cs starred in
        if_weak (BodyText nested true third) (λ x. Word size levels nested cs x.0 x.1) (word_of size inner nested true (form_of third) third) (word_of_spelled nested true (form_of third) third (form_facts (begins open_brace third) (begins quote third)))
        (λ x (b, e, stop). subst (λ t. Word size levels nested t x.0 x.1) (sym at) (subst (WordWith nested (open_brace ∷ star ∷ close_brace ∷ third) x.0 x.1) (sym e) (Word.behind_mark levels nested third x.0.form x.0.pieces x.1 goes_on b stop))))
    | inr other ↦ rw other (
        if_weak (BodyText nested false cs) (λ x. Word size levels nested cs x.0 x.1) (word_of size inner nested false (form_of cs) cs) (word_of_spelled nested false (form_of cs) cs (form_facts (begins open_brace cs) (begins quote cs)))
        (λ x (b, e, stop). subst (WordWith nested cs x.0 x.1) (sym e) (Word.without_mark levels nested cs x.0.form x.0.pieces x.1 b stop)))
  ]

  -- ---- commands

  -- words, and the end of their command
  abbrev WordsEnded : Bool → List ℕ → List Shape → List ℕ → Type 0
  WordsEnded nested cs ws rest = Words size levels nested cs ws rest × CommandEnd nested rest (after_command rest)

  -- the next word, or none where the command ends
  abbrev pub WordIs : Bool → List ℕ → Option Shape → List ℕ → Type 0
  WordIs nested cs None rest = WordsEnded nested cs [] rest
  WordIs nested cs (Some w) rest = (here : List ℕ) × Blanks cs here × (ends_word nested here ≡ false) × Word size levels nested here w rest

  pub word_is : (nested : Bool) (cs : List ℕ) → IfOk (next_word size inner nested cs) (λ t. WordIs nested cs t.0 t.1)
  unfolding next_word
  word_is nested cs =
      let here = after_blanks cs in
      elim (cases_Bool (ends_word nested here)) [
        | inl stop ↦ rw stop (Words.blanks_alone levels nested cs here (blanks_spelled cs), command_end nested here stop (blanks_passed cs))
        | inr more ↦ rw more (
            if_bind (λ x. Word size levels nested here x.0 x.1) (λ t. WordIs nested cs t.0 t.1) (word_at size inner nested here) _ (word_spelled nested here) (λ x w. (here, blanks_spelled cs, more, w)))
      ]

  pub next_ends : (nested : Bool) (cs rest : List ℕ) (w : Shape) → next_word size inner nested cs ≡ Ok (Some w, rest) → ends_word nested rest ≡ true
  next_ends nested cs rest w e =
      let (here, b, more, h) = if_ok (λ t. WordIs nested cs t.0 t.1) (next_word size inner nested cs) (Some w, rest) (word_is nested cs) e in
      word_end_there size levels nested here w rest h

  word_turn : (nested : Bool) (cs : List ℕ) (x : Option Shape) (rest : List ℕ) → WordIs nested cs x rest → Turn (WordsEnded nested) cs x rest
  word_turn nested cs None rest h = h
  word_turn nested cs (Some w) rest (here, b, more, h) = λ ws end (k, e). (Words.word levels nested cs here w rest ws end b more h k, e)

  words_spelled : (nested : Bool) (cs : List ℕ) → IfOk (words_at size inner nested cs) (λ x. WordsEnded nested cs x.0 x.1)
  unfolding words_at
  words_spelled nested cs = turns_give (WordsEnded nested) (next_word size inner nested) cs (forward_shrinks (next_word size inner nested) (word_forward size inner (inner_inside size levels) nested))
      (λ ds. if_weak (λ t. WordIs nested ds t.0 t.1) (λ t. Turn (WordsEnded nested) ds t.0 t.1) (next_word size inner nested ds) (word_is nested ds) (λ t h. word_turn nested ds t.0 t.1 h))

  pub first_spelled : (nested : Bool) (cs : List ℕ) → IfOk (first_at size inner nested cs) (λ t. FirstSpelled size levels nested cs t.0 t.1)
  unfolding first_at
  first_spelled nested cs =
      let here = after_gaps gap.Between cs in
      elim (cases_Bool (ends_word nested here)) [
        | inl stop ↦ rw stop (record { separators = gaps_spelled gap.Between cs; stops = script_end nested here stop (gaps_passed gap.Between cs) })
        | inr more ↦ rw more (
            if_bind (λ x. WordsEnded nested here x.0 x.1) (λ t. FirstSpelled size levels nested cs t.0 t.1) (words_at size inner nested here) _ (words_spelled nested here)
            (λ x (k, e). Command.command levels nested cs here x.0 x.1 (after_command x.1) (gaps_spelled gap.Between cs) (no_comment here (gaps_passed gap.Between cs)) more k e))
      ]

  command_turn : (nested : Bool) (cs : List ℕ) (x : Option (List Shape)) (rest : List ℕ) → FirstSpelled size levels nested cs x rest → Turn (λ ds wss end. Commands size levels nested ds wss end) cs x rest
  command_turn nested cs None rest h = Commands.separators_alone levels nested cs rest h.separators h.stops
  command_turn nested cs (Some ws) rest h = λ wss end k. Commands.next levels nested cs ws rest wss end h k

  pub commands_spelled : (nested : Bool) (cs : List ℕ) → IfOk (commands_at size inner nested cs) (λ x. Commands size levels nested cs x.0 x.1)
  unfolding commands_at
  commands_spelled nested cs =
      turns_give (λ ds wss rest. Commands size levels nested ds wss rest) (first_at size inner nested) cs (forward_shrinks (first_at size inner nested) (first_forward size inner (inner_inside size levels) nested))
      (λ ds. if_weak (λ t. FirstSpelled size levels nested ds t.0 t.1) (λ t. Turn (λ ds wss rest. Commands size levels nested ds wss rest) ds t.0 t.1) (first_at size inner nested ds) (first_spelled nested ds) (λ t h. command_turn nested ds t.0 t.1 h))

-- ---- one level more

script_closed : (size levels : ℕ) (cs : List ℕ) (commands : List (List Shape)) (rest : List ℕ) → Commands size levels true cs commands rest → IfOk (closing rest) (ScriptSpelled size (suc levels) cs)
script_closed size levels cs commands [] k = tt
script_closed size levels cs commands (c ∷ rest) k =
    let e : c ≡ close_bracket = eqb-true c close_bracket (commands_end_there size levels true cs commands (c ∷ rest) k) in
    (levels, rest, commands, refl, ap (λ (x : ℕ). x ∷ rest) e, subst (λ x. Commands size levels true cs commands (x ∷ rest)) e k)

pub nest_spelled : (size levels : ℕ) → NestSpelled size levels
unfolding inner_at after_commands
nest_spelled size zero = record { script = λ cs. tt; index = λ cs. tt }
nest_spelled size (suc n) =
    let below = nest_spelled size n in
    record {
      script = λ cs.
          if_bind (λ rest. (commands : List (List Shape)) × Commands size n true cs commands rest) (ScriptSpelled size (suc n) cs) (after_commands size (inner_at size n) true cs) closing
          (if_bind (λ x. Commands size n true cs x.0 x.1) (λ rest. (commands : List (List Shape)) × Commands size n true cs commands rest) (commands_at size (inner_at size n) true cs) _ (commands_spelled size n below true cs) (λ x k. (x.0, k)))
          (λ rest (commands, k). script_closed size n cs commands rest k);
      index = λ cs.
          if_bind (λ x. Pieces size n (begins close_paren) cs x.0 x.1) (IndexSpelled size (suc n) cs) (pieces_at size (inner_at size n) mode.Index cs) _ (pieces_spelled size n below mode.Index cs)
          (λ x k. (n, x.0, refl, refl, subst (λ t. Pieces size n (begins close_paren) cs x.0 t) (headed close_paren x.1 (pieces_end_there size n (begins close_paren) cs x.0 x.1 k)) k));
    }
