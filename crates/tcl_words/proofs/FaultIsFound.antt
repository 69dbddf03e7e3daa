-- The fault that stands in a text is the one that is found.
use Rattle.std.proofs.Common.{◌≡◌, ℕ, zero, suc, Bool, true, false, not, ◌==◌, List, [], ◌∷◌, ◌++◌, Result, Ok, Err, refl, sym, ap, subst, ◌∙◌, arith, inl, inr}
use Rattle.std.specs.Prelude.{IfErr}
use Rattle.std.proofs.lemmas.Bool.{cases_Bool, and_parts, true≢false}
use Rattle.tcl_chars.specs.Characters.{dollar, quote, open_bracket, open_brace, close_brace, open_paren, close_paren}
use Rattle.tcl_chars.specs.Place.{begins}
use Rattle.tcl_chars.specs.Reading.{with_front}
use Rattle.tcl_chars.proofs.Turns.{bad_turn, one_turn}
use Rattle.tcl_words.specs.declared.fault.Syntax.{Syntax}
use Rattle.tcl_words.specs.declared.fault.Syntax.TheVariants.{MissingBrace, MissingBracket, MissingQuote, MissingParen, MissingVariableBrace, TooDeep}
use Rattle.tcl_words.specs.declared.front.Kind.TheVariants as kind
use Rattle.tcl_words.specs.declared.front.Mode.{Mode}
use Rattle.tcl_words.specs.declared.front.Mode.TheVariants as mode
use Rattle.tcl_words.specs.declared.word.Form.{Form}
use Rattle.tcl_words.specs.Faults.{NeverCloses, Unended, IsExtra, BadPiece, BadPieces, BadBody, BadWord, BadWords, BadCommand, BadCommands}
use Rattle.tcl_words.specs.Parts.{Part, Shape}
use Rattle.tcl_words.specs.Spelling.{ends_word, begins_variable, IsLongestName, lacks, Balanced, Body, Commands}
use Rattle.tcl_words.specs.Words.{after_blanks, after_name, at_variable_brace, at_brace, braced_at, kind_of, ends_pieces, fault_at_end, form_of, Inner, inner_at, variable_at, bracket_at, piece_at, pieces_at, quoted_at, word_of, word_at, next_word, words_at, first_at, commands_at, after_commands}
use Rattle.tcl_chars.proofs.Ends.{if_ok, forward_shrinks}
use Rattle.tcl_words.proofs.Forward.{piece_forward, word_forward, first_forward, inner_inside}
use Rattle.tcl_words.proofs.Levels.{no_bracket, no_index}
use Rattle.tcl_words.proofs.FoundIsFault.{brace_errs}
use Rattle.tcl_words.proofs.ScansSpelled.{name_read, blanks_read, separators_read, braces_spelled, solid_blanks, solid_gaps}
use Rattle.tcl_words.proofs.SpelledIsRead.{kind_bracket, kind_variable, paren_variable, nest_read, piece_by_err, piece_read, braced_read, quoted_read, word_read, one_word, command_read, commands_read}

-- ---- scans

variable_brace_lacking : (cs : List ℕ) → lacks close_brace cs ≡ true → at_variable_brace cs ≡ Err MissingVariableBrace
unfolding at_variable_brace
variable_brace_lacking [] h = refl
variable_brace_lacking (c ∷ cs) h =
    let both = and_parts (not (c == close_brace)) (lacks close_brace cs) h in
    elim (cases_Bool (c == close_brace)) [
      | inl e ↦ absurd (true≢false (let w : false ≡ true = rw e at both.0 in sym w))
      | inr e ↦ rw e (variable_brace_lacking cs both.1)
    ]

brace_by : (cs : List ℕ) (r : Result (List ℕ) Syntax) → at_brace false 0 cs ≡ r → IfErr r (λ m. m ≡ MissingBrace) → NeverCloses cs → r ≡ Err MissingBrace
brace_by cs (Err m) e h n = ap (λ (x : Syntax). Err x) h
brace_by cs (Ok close) e h n =
    let (inside, rest, b, j, f) = if_ok (λ x. (inside : List ℕ) × (rest : List ℕ) × Balanced inside × (cs ≡ inside ++ x) × (x ≡ close_brace ∷ rest)) (at_brace false 0 cs) close (braces_spelled cs) e in
    absurd (n inside rest b (j ∙ ap (λ t. inside ++ t) f))

brace_never : (cs : List ℕ) → NeverCloses cs → at_brace false 0 cs ≡ Err MissingBrace
brace_never cs n = brace_by cs (at_brace false 0 cs) refl (brace_errs false 0 cs) n

-- ---- pieces, words and commands, where the same is known of what nests

pub record FaultsFound (size levels : ℕ) : Type 0 where
  pub open_index : (n : ℕ) (index : List ℕ) → levels ≡ suc n → Unended size n (begins close_paren) index → (inner_at size levels).index index ≡ Err MissingParen
  pub in_index : (n : ℕ) (index : List ℕ) (m : Syntax) → levels ≡ suc n → BadPieces size n (begins close_paren) index m → (inner_at size levels).index index ≡ Err m
  pub open_script : (n : ℕ) (cs : List ℕ) (commands : List (List Shape)) → levels ≡ suc n → Commands size n true cs commands [] → (inner_at size levels).bracket cs ≡ Err MissingBracket
  pub in_script : (n : ℕ) (cs : List ℕ) (m : Syntax) → levels ≡ suc n → BadCommands size n true cs m → (inner_at size levels).bracket cs ≡ Err m

open_name_at : (size : ℕ) (inner : Inner) (cs : List ℕ) → lacks close_brace cs ≡ true → variable_at size inner (dollar ∷ open_brace ∷ cs) ≡ Err MissingVariableBrace
unfolding variable_at
open_name_at size inner cs l = rw (variable_brace_lacking cs l) refl

bad_index_at : (size : ℕ) (inner : Inner) (cs index : List ℕ) (m : Syntax) → after_name false cs ≡ open_paren ∷ index → inner.index index ≡ Err m → variable_at size inner (dollar ∷ cs) ≡ Err m
unfolding variable_at
bad_index_at size inner cs index m e i = rw ((paren_variable cs index e).1, e, i) refl

bad_script_at : (size : ℕ) (inner : Inner) (cs : List ℕ) (m : Syntax) → inner.bracket cs ≡ Err m → bracket_at size inner (open_bracket ∷ cs) ≡ Err m
bad_script_at size inner cs m e = rw e refl

piece_bracket : (size : ℕ) (inner : Inner) (m : Mode) (cs : List ℕ) (e : Syntax) → ends_pieces m (open_bracket ∷ cs) ≡ false → bracket_at size inner (open_bracket ∷ cs) ≡ Err e → piece_at size inner m (open_bracket ∷ cs) ≡ Err e
piece_bracket size inner m cs e h b = piece_by_err size inner m kind.Opening (open_bracket ∷ cs) e (kind_bracket m cs h) (rw b refl)

piece_variable : (size : ℕ) (inner : Inner) (m : Mode) (cs : List ℕ) (e : Syntax) → ends_pieces m (dollar ∷ cs) ≡ false → begins_variable cs ≡ true → variable_at size inner (dollar ∷ cs) ≡ Err e → piece_at size inner m (dollar ∷ cs) ≡ Err e
piece_variable size inner m cs e h v b = piece_by_err size inner m kind.Variable (dollar ∷ cs) e (kind_variable m cs h v) (rw b refl)

-- the index behind a name
piece_index : (size : ℕ) (inner : Inner) (m : Mode) (cs name index : List ℕ) (e : Syntax) → ends_pieces m (dollar ∷ cs) ≡ false → cs ≡ name ++ open_paren ∷ index → IsLongestName cs name → inner.index index ≡ Err e
    → piece_at size inner m (dollar ∷ cs) ≡ Err e
piece_index size inner m cs name index e h j l i =
    let at : after_name false cs ≡ open_paren ∷ index = name_read cs name (open_paren ∷ index) j l in
    piece_variable size inner m cs e h (paren_variable cs index at).0 (bad_index_at size inner cs index e at i)

pub piece_found : (size levels : ℕ) (cs : List ℕ) (e : Syntax) → BadPiece size levels cs e → FaultsFound size levels → (m : Mode) → ends_pieces m cs ≡ false → piece_at size (inner_at size levels) m cs ≡ Err e
piece_found size _ _ _ (BadPiece.open_name levels cs l) below m h = piece_variable size (inner_at size levels) m (open_brace ∷ cs) MissingVariableBrace h refl (open_name_at size (inner_at size levels) cs l)
piece_found size _ _ _ (BadPiece.deep_index levels cs name index z j l) below m h = piece_index size (inner_at size levels) m cs name index TooDeep h j l (no_index size levels index z)
piece_found size _ _ _ (BadPiece.deep_script levels cs z) below m h = piece_bracket size (inner_at size levels) m cs TooDeep h (bad_script_at size (inner_at size levels) cs TooDeep (no_bracket size levels cs z))
piece_found size _ _ _ (BadPiece.open_index levels n cs name index v j l u) below m h = piece_index size (inner_at size levels) m cs name index MissingParen h j l (below.open_index n index v u)
piece_found size _ _ _ (BadPiece.in_index levels n cs name index e v j l b) below m h = piece_index size (inner_at size levels) m cs name index e h j l (below.in_index n index e v b)
piece_found size _ _ _ (BadPiece.open_script levels n cs commands v k) below m h = piece_bracket size (inner_at size levels) m cs MissingBracket h (bad_script_at size (inner_at size levels) cs MissingBracket (below.open_script n cs commands v k))
piece_found size _ _ _ (BadPiece.in_script levels n cs e v b) below m h = piece_bracket size (inner_at size levels) m cs e h (bad_script_at size (inner_at size levels) cs e (below.in_script n cs e v b))

pub pieces_found : (size levels : ℕ) (ends : List ℕ → Bool) (cs : List ℕ) (e : Syntax) → BadPieces size levels ends cs e → FaultsFound size levels → (m : Mode) → ends ≡ ends_pieces m → pieces_at size (inner_at size levels) m cs ≡ Err e
unfolding pieces_at
pieces_found size _ _ _ _ (BadPieces.piece_here levels ends cs e h b) below m is =
    bad_turn (piece_at size (inner_at size levels) m) cs e (piece_found size levels cs e b below m (ap (λ (f : List ℕ → Bool). f cs) (sym is) ∙ h))
pieces_found size _ _ _ _ (BadPieces.piece_later levels ends cs p after e h q b) below m is =
    one_turn (piece_at size (inner_at size levels) m) cs p after (forward_shrinks (piece_at size (inner_at size levels) m) (piece_forward size (inner_at size levels) (inner_inside size levels) m))
    (piece_read size levels ends cs p after q (nest_read size levels) m is (ap (λ (f : List ℕ → Bool). f cs) (sym is) ∙ h)) ∙ ap (with_front (p ∷ [])) (pieces_found size levels ends after e b below m is)

open_at_end : (size : ℕ) (inner : Inner) (m : Mode) → ends_pieces m [] ≡ false → piece_at size inner m [] ≡ Err (fault_at_end m)
unfolding piece_at kind_of
open_at_end size inner (mode.Bare nested) h = absurd (true≢false h)
open_at_end size inner mode.Quoted h = refl
open_at_end size inner mode.Index h = refl

pub unended_found : (size levels : ℕ) (ends : List ℕ → Bool) (cs : List ℕ) → Unended size levels ends cs → (m : Mode) → ends ≡ ends_pieces m → pieces_at size (inner_at size levels) m cs ≡ Err (fault_at_end m)
unfolding pieces_at
unended_found size _ _ _ (Unended.at_end levels ends h) m is =
    bad_turn (piece_at size (inner_at size levels) m) [] (fault_at_end m) (open_at_end size (inner_at size levels) m (ap (λ (f : List ℕ → Bool). f []) (sym is) ∙ h))
unended_found size _ _ _ (Unended.piece levels ends cs p after h q u) m is =
    one_turn (piece_at size (inner_at size levels) m) cs p after (forward_shrinks (piece_at size (inner_at size levels) m) (piece_forward size (inner_at size levels) (inner_inside size levels) m))
    (piece_read size levels ends cs p after q (nest_read size levels) m is (ap (λ (f : List ℕ → Bool). f cs) (sym is) ∙ h)) ∙ ap (with_front (p ∷ [])) (unended_found size levels ends after u m is)

-- ---- words

pub open_braced : (size : ℕ) (cs : List ℕ) → NeverCloses cs → braced_at size (open_brace ∷ cs) ≡ Err MissingBrace
unfolding braced_at
open_braced size cs n = rw (brace_never cs n) refl

pub bad_quoted : (size : ℕ) (inner : Inner) (cs : List ℕ) (e : Syntax) → pieces_at size inner mode.Quoted cs ≡ Err e → quoted_at size inner (quote ∷ cs) ≡ Err e
unfolding quoted_at
bad_quoted size inner cs e h = rw h refl

extra_found : (size levels : ℕ) (nested : Bool) (cs : List ℕ) (f : Form) (ps : List Part) (rest : List ℕ) → Body size levels nested cs f ps rest → (expands : Bool) (e : Syntax) → ends_word nested rest ≡ false → IsExtra f e
    → word_of size (inner_at size levels) nested expands (form_of cs) cs ≡ Err e
extra_found size _ _ _ _ _ _ (Body.braced levels nested cs inside ps rest j b i) expands e other x = rw (braced_read size cs inside ps rest j b i, other, x) refl
extra_found size _ _ _ _ _ _ (Body.quoted levels nested cs ps rest k) expands e other x = rw (quoted_read size levels cs ps rest (nest_read size levels) k, other, x) refl
extra_found size _ _ _ _ _ _ (Body.bare levels nested cs ps rest b q k) expands e other x = absurd x

body_found : (size levels : ℕ) (nested : Bool) (cs : List ℕ) (e : Syntax) → BadBody size levels nested cs e → FaultsFound size levels → (expands : Bool) → word_of size (inner_at size levels) nested expands (form_of cs) cs ≡ Err e
body_found size _ _ _ _ (BadBody.open_braces levels nested cs n) below expands = rw (open_braced size cs n) refl
body_found size _ _ _ _ (BadBody.open_quotes levels nested cs u) below expands = rw (bad_quoted size (inner_at size levels) cs MissingQuote (unended_found size levels (begins quote) cs u mode.Quoted refl)) refl
body_found size _ _ _ _ (BadBody.in_quotes levels nested cs e b) below expands = rw (bad_quoted size (inner_at size levels) cs e (pieces_found size levels (begins quote) cs e b below mode.Quoted refl)) refl
body_found size _ _ _ _ (BadBody.in_bare levels nested cs e b q k) below expands = rw (b, q, pieces_found size levels (ends_word nested) cs e k below (mode.Bare nested) refl) refl
body_found size _ _ _ _ (BadBody.extra levels nested cs f ps rest e k other x) below expands = extra_found size levels nested cs f ps rest k expands e other x

word_found : (size levels : ℕ) (nested : Bool) (cs : List ℕ) (e : Syntax) → BadWord size levels nested cs e → FaultsFound size levels → word_at size (inner_at size levels) nested cs ≡ Err e
unfolding word_at
word_found size _ _ _ _ (BadWord.without_mark levels nested cs e n b) below = rw n (body_found size levels nested cs e b below false)
word_found size _ _ _ _ (BadWord.behind_mark levels nested cs e goes_on b) below = rw goes_on (body_found size levels nested cs e b below true)

bad_next : (size : ℕ) (inner : Inner) (nested : Bool) (cs here : List ℕ) (e : Syntax) → after_blanks cs ≡ here → ends_word nested here ≡ false → word_at size inner nested here ≡ Err e → next_word size inner nested cs ≡ Err e
unfolding next_word
bad_next size inner nested cs here e b more h = rw (b, more, h) refl

words_found : (size levels : ℕ) (nested : Bool) (cs : List ℕ) (e : Syntax) → BadWords size levels nested cs e → FaultsFound size levels → words_at size (inner_at size levels) nested cs ≡ Err e
unfolding words_at
words_found size _ _ _ _ (BadWords.word_here levels nested cs here e b more w) below =
    bad_turn (next_word size (inner_at size levels) nested) cs e (bad_next size (inner_at size levels) nested cs here e (blanks_read cs here b (solid_blanks nested here more)) more (word_found size levels nested here e w below))
words_found size _ _ _ _ (BadWords.word_later levels nested cs here w after e b more h k) below =
    one_turn (next_word size (inner_at size levels) nested) cs w after (forward_shrinks (next_word size (inner_at size levels) nested) (word_forward size (inner_at size levels) (inner_inside size levels) nested))
    (one_word size (inner_at size levels) nested cs here w after (blanks_read cs here b (solid_blanks nested here more)) more (word_read size levels nested here w after h (nest_read size levels)))
    ∙ ap (with_front (w ∷ [])) (words_found size levels nested after e k below)

-- ---- commands

pub command_found : (size levels : ℕ) (nested : Bool) (cs : List ℕ) (e : Syntax) → BadCommand size levels nested cs e → FaultsFound size levels → first_at size (inner_at size levels) nested cs ≡ Err e
unfolding first_at
command_found size _ _ _ _ (BadCommand.bad_command levels nested cs here e s n more b) below = rw (separators_read cs here s (solid_gaps nested here more n), more, words_found size levels nested here e b below) refl

pub commands_found : (size levels : ℕ) (nested : Bool) (cs : List ℕ) (e : Syntax) → BadCommands size levels nested cs e → FaultsFound size levels → commands_at size (inner_at size levels) nested cs ≡ Err e
unfolding commands_at
commands_found size _ _ _ _ (BadCommands.command_here levels nested cs e b) below = bad_turn (first_at size (inner_at size levels) nested) cs e (command_found size levels nested cs e b below)
commands_found size _ _ _ _ (BadCommands.command_later levels nested cs ws after e c k) below =
    one_turn (first_at size (inner_at size levels) nested) cs ws after (forward_shrinks (first_at size (inner_at size levels) nested) (first_forward size (inner_at size levels) (inner_inside size levels) nested))
    (command_read size levels nested cs ws after c (nest_read size levels)) ∙ ap (with_front (ws ∷ [])) (commands_found size levels nested after e k below)

-- ---- one level more

open_index_in : (size n k : ℕ) (index : List ℕ) → suc n ≡ suc k → Unended size k (begins close_paren) index → (inner_at size (suc n)).index index ≡ Err MissingParen
unfolding inner_at
open_index_in size n k index e u =
    let same : k ≡ n = omega (arith, e) in
    rw (unended_found size n (begins close_paren) index (subst (λ j. Unended size j (begins close_paren) index) same u) mode.Index refl) refl

in_index_in : (size n k : ℕ) (index : List ℕ) (m : Syntax) → suc n ≡ suc k → FaultsFound size n → BadPieces size k (begins close_paren) index m → (inner_at size (suc n)).index index ≡ Err m
unfolding inner_at
in_index_in size n k index m e below b =
    let same : k ≡ n = omega (arith, e) in
    rw (pieces_found size n (begins close_paren) index m (subst (λ j. BadPieces size j (begins close_paren) index m) same b) below mode.Index refl) refl

open_script_in : (size n k : ℕ) (cs : List ℕ) (commands : List (List Shape)) → suc n ≡ suc k → Commands size k true cs commands [] → (inner_at size (suc n)).bracket cs ≡ Err MissingBracket
unfolding inner_at after_commands
open_script_in size n k cs commands e c =
    let same : k ≡ n = omega (arith, e) in
    rw (commands_read size n true cs commands [] (subst (λ j. Commands size j true cs commands []) same c) (nest_read size n)) refl

in_script_in : (size n k : ℕ) (cs : List ℕ) (m : Syntax) → suc n ≡ suc k → FaultsFound size n → BadCommands size k true cs m → (inner_at size (suc n)).bracket cs ≡ Err m
unfolding inner_at after_commands
in_script_in size n k cs m e below b =
    let same : k ≡ n = omega (arith, e) in
    rw (commands_found size n true cs m (subst (λ j. BadCommands size j true cs m) same b) below) refl

pub faults_found : (size levels : ℕ) → FaultsFound size levels
faults_found size zero = record {
  open_index = λ n index e u. absurd (omega (arith, e));
  in_index = λ n index m e b. absurd (omega (arith, e));
  open_script = λ n cs commands e c. absurd (omega (arith, e));
  in_script = λ n cs m e b. absurd (omega (arith, e));
}
faults_found size (suc n) =
    let below = faults_found size n in
    record {
      open_index = λ k index e u. open_index_in size n k index e u;
      in_index = λ k index m e b. in_index_in size n k index m e below b;
      open_script = λ k cs commands e c. open_script_in size n k cs commands e c;
      in_script = λ k cs m e b. in_script_in size n k cs m e below b;
    }
