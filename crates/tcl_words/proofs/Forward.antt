-- What each reading leaves ends its text, and is shorter where the reading gives something.
use Rattle.std.proofs.Common.{◌≡◌, ℕ, zero, suc, ◌+◌, ◌-◌, Bool, true, false, cond, ◌&&◌, ◌||◌, ◌==◌, List, [], ◌∷◌, drop, Result, Ok, Err, refl, inl, inr}
use Rattle.std.specs.Prelude.{IfOk, IsSome, if◌then◌else◌}
use Rattle.std.proofs.lemmas.Bool.{cases_Bool, or_parts}
use Rattle.tcl_chars.specs.Characters.{newline, backslash, semicolon, quote, number_sign, dollar, colon, open_bracket, close_bracket, open_paren, open_brace, close_brace}
use Rattle.tcl_chars.specs.Classes.{is_word_space, is_name_char}
use Rattle.tcl_chars.specs.Escape.{escape}
use Rattle.tcl_chars.specs.Place.{EndsWith, begins, tail, before, place}
use Rattle.tcl_chars.specs.Reading.{all_turns}
use Rattle.tcl_words.specs.declared.blanks.Gap.{Gap}
use Rattle.tcl_words.specs.declared.blanks.Gap.TheVariants as gap
use Rattle.tcl_words.specs.declared.fault.Syntax.{Syntax}
use Rattle.tcl_words.specs.declared.fault.Syntax.TheVariants.{AfterBrace, AfterQuote}
use Rattle.tcl_words.specs.declared.front.Kind.{Kind}
use Rattle.tcl_words.specs.declared.front.Kind.TheVariants as kind
use Rattle.tcl_words.specs.declared.front.Mode.{Mode}
use Rattle.tcl_words.specs.declared.front.Mode.TheVariants as mode
use Rattle.tcl_words.specs.declared.word.Form.{Form}
use Rattle.tcl_words.specs.declared.word.Form.TheVariants as form
use Rattle.tcl_words.specs.Parts.{Shape}
use Rattle.tcl_words.specs.Words.{lone_at, operand_at, after_blanks, after_gaps, ends_word, after_name, begins_variable, kind_of, is_plain, after_plain, at_variable_brace, at_brace, after_verbatim, begins_hidden_newline, marked, form_of, closed, after_command, verbatim_at, braced_at, Inner, named, variable_at, bracket_at, piece_of, piece_at, pieces_at, quoted_at, word_of, word_at, next_word, words_at, first_at, commands_at, after_commands, closing, inner_at}
use Rattle.tcl_chars.proofs.EscapesLemmas.{escape_takes}
use Rattle.tcl_chars.proofs.Ends.{IsPast, ends_self, ends_more, ends_trans, ends_tail, past_more, past_then, then_past, past_drop, if_cond, if_bind, if_weak, always, Ends, Past, Moves, Forward, turns_end, turns_past}

-- ---- scans

pub blanks_end : (cs : List ℕ) → EndsWith cs (after_blanks cs)
unfolding after_blanks
blanks_end [] = ends_self []
blanks_end (c ∷ []) = if_cond (EndsWith (c ∷ [])) (is_word_space c) [] (c ∷ []) (ends_tail (c ∷ [])) (ends_self (c ∷ []))
blanks_end (c ∷ d ∷ cs) =
    if_cond (EndsWith (c ∷ d ∷ cs)) (is_word_space c) _ _ (ends_more c (d ∷ cs) _ (blanks_end (d ∷ cs)))
    (if_cond (EndsWith (c ∷ d ∷ cs)) (c == backslash && d == newline) _ _ (ends_more c (d ∷ cs) _ (ends_more d cs _ (blanks_end cs))) (ends_self (c ∷ d ∷ cs)))

pub gaps_end : (g : Gap) (cs : List ℕ) → EndsWith cs (after_gaps g cs)
unfolding after_gaps
gaps_end gap.Between [] = ends_self []
gaps_end (gap.Comment h) [] = ends_self []
gaps_end gap.Between (c ∷ cs) =
    if_cond (EndsWith (c ∷ cs)) (is_word_space c || c == newline || c == semicolon || (c == backslash && begins newline cs)) _ _ (ends_more c cs _ (gaps_end gap.Between cs))
    (if_cond (EndsWith (c ∷ cs)) (c == number_sign) _ _ (ends_more c cs _ (gaps_end (gap.Comment false) cs)) (ends_self (c ∷ cs)))
gaps_end (gap.Comment h) (c ∷ cs) =
    if_cond (EndsWith (c ∷ cs)) h _ _ (ends_more c cs _ (gaps_end (gap.Comment false) cs))
    (if_cond (EndsWith (c ∷ cs)) (c == newline) _ _ (ends_more c cs _ (gaps_end gap.Between cs)) (ends_more c cs _ (gaps_end (gap.Comment (c == backslash)) cs)))

pub name_end : (f : Bool) (cs : List ℕ) → EndsWith cs (after_name f cs)
unfolding after_name
name_end f [] = ends_self []
name_end f (c ∷ cs) =
    if_cond (EndsWith (c ∷ cs)) (is_name_char c) _ _ (ends_more c cs _ (name_end false cs))
    (if_cond (EndsWith (c ∷ cs)) (c == colon && (f || begins colon cs)) _ _ (ends_more c cs _ (name_end true cs)) (ends_self (c ∷ cs)))

pub plain_end : (m : Mode) (cs : List ℕ) → EndsWith cs (after_plain m cs)
unfolding after_plain
plain_end m [] = ends_self []
plain_end m (c ∷ cs) = if_cond (EndsWith (c ∷ cs)) (is_plain (kind_of m (c ∷ cs))) _ _ (ends_more c cs _ (plain_end m cs)) (ends_self (c ∷ cs))

-- plain text takes a character
pub plain_past : (m : Mode) (c : ℕ) (cs : List ℕ) → kind_of m (c ∷ cs) ≡ kind.Plain → IsPast (c ∷ cs) (after_plain m (c ∷ cs))
unfolding after_plain
plain_past m c cs e = rw e (past_more c cs _ (plain_end m cs))

pub variable_brace_end : (cs : List ℕ) → IfOk (at_variable_brace cs) (EndsWith cs)
unfolding at_variable_brace
variable_brace_end [] = tt
variable_brace_end (c ∷ cs) =
    if_cond (λ r. IfOk r (EndsWith (c ∷ cs))) (c == close_brace) (Ok (c ∷ cs)) (at_variable_brace cs) (ends_self (c ∷ cs))
    (if_weak (EndsWith cs) (EndsWith (c ∷ cs)) (at_variable_brace cs) (variable_brace_end cs) (λ r h. ends_more c cs r h))

pub brace_end : (h : Bool) (d : ℕ) (cs : List ℕ) → IfOk (at_brace h d cs) (EndsWith cs)
unfolding at_brace
brace_end h d [] = tt
brace_end h d (c ∷ cs) =
    let P : Result (List ℕ) Syntax → Type 0 = λ r. IfOk r (EndsWith (c ∷ cs)) in
    let more = λ (x : Bool) (n : ℕ). if_weak (EndsWith cs) (EndsWith (c ∷ cs)) (at_brace x n cs) (brace_end x n cs) (λ r k. ends_more c cs r k) in
    let at_close = if_cond P (d == 0) (Ok (c ∷ cs)) (at_brace false (d - 1) cs) (ends_self (c ∷ cs)) (more false (d - 1)) in
    let otherwise = if_cond P (c == open_brace) (at_brace false (d + 1) cs) (at_brace (c == backslash) d cs) (more false (d + 1)) (more (c == backslash) d) in
    if_cond P h (at_brace false d cs) _ (more false d) (if_cond P (c == close_brace) _ _ at_close otherwise)

pub verbatim_end : (cs : List ℕ) → EndsWith cs (after_verbatim cs)
unfolding after_verbatim
verbatim_end [] = ends_self []
verbatim_end (c ∷ []) = ends_tail (c ∷ [])
verbatim_end (c ∷ d ∷ cs) =
    if_cond (EndsWith (c ∷ d ∷ cs)) (c == backslash) _ _
    (if_cond (EndsWith (c ∷ d ∷ cs)) (d == newline) (c ∷ d ∷ cs) (after_verbatim cs) (ends_self (c ∷ d ∷ cs)) (ends_more c (d ∷ cs) _ (ends_more d cs _ (verbatim_end cs))))
    (ends_more c (d ∷ cs) _ (verbatim_end (d ∷ cs)))

verbatim_past : (c : ℕ) (cs : List ℕ) → begins_hidden_newline (c ∷ cs) ≡ false → IsPast (c ∷ cs) (after_verbatim (c ∷ cs))
unfolding after_verbatim
verbatim_past c [] h = past_more c [] [] (ends_self [])
verbatim_past c (d ∷ cs) h = elim (cases_Bool (c == backslash)) [
  | inl b ↦ let n : (d == newline) ≡ false = rw b at h in rw (b, n) (past_more c (d ∷ cs) _ (ends_more d cs _ (verbatim_end cs)))
  | inr b ↦ rw b (past_more c (d ∷ cs) _ (verbatim_end (d ∷ cs)))
]

-- an escape takes a character
escape_past : (c : ℕ) (cs : List ℕ) → IsPast (c ∷ cs) (drop (escape (c ∷ cs)).1 (c ∷ cs))
escape_past c cs = past_drop (escape (c ∷ cs)).1 c cs (escape_takes c cs)

-- ---- the text inside braces

verbatim_moves : (size : ℕ) (cs : List ℕ) → IfOk (verbatim_at size cs) (λ t. Moves cs t.0 t.1)
unfolding verbatim_at
verbatim_moves size [] = ends_self []
verbatim_moves size (c ∷ cs) = elim (cases_Bool (begins_hidden_newline (c ∷ cs))) [
  | inl hidden ↦ rw hidden (escape_past c cs)
  | inr other ↦ rw other (verbatim_past c cs other)
]

pub verbatim_forward : (size : ℕ) → Forward (verbatim_at size)
verbatim_forward size = record { each = verbatim_moves size }

pub braced_end : (size : ℕ) (cs : List ℕ) → Ends (tail cs) (braced_at size cs)
unfolding braced_at
braced_end size cs =
    if_bind (EndsWith (tail cs)) (λ x. EndsWith (tail cs) x.1) (at_brace false 0 (tail cs)) _ (brace_end false 0 (tail cs))
    (λ close h. if_bind (λ x. Unit {0}) (λ x. EndsWith (tail cs) x.1) (all_turns (verbatim_at (place size close)) (before (tail cs) close)) _ (always (all_turns (verbatim_at (place size close)) (before (tail cs) close))) (λ x k. ends_trans (tail cs) close (tail close) h (ends_tail close)))

-- ---- pieces and words

is_not_blank : (nested : Bool) (c : ℕ) (cs : List ℕ) → ends_word nested (c ∷ cs) ≡ false → (is_word_space c ≡ false) × ((c == backslash && begins newline cs) ≡ false)
is_not_blank nested c cs e =
    let last = or_parts (is_word_space c || c == newline || c == semicolon || (nested && c == close_bracket)) (c == backslash && begins newline cs) e in
    let third = or_parts (is_word_space c || c == newline || c == semicolon) (nested && c == close_bracket) last.0 in
    let second = or_parts (is_word_space c || c == newline) (c == semicolon) third.0 in
    let first = or_parts (is_word_space c) (c == newline) second.0 in
    (first.0, last.1)

not_ends : (x y z : Bool) → (if x then kind.Backslashed else if y then kind.Opening else if z then kind.Variable else kind.Plain) ≡ kind.Ends → ⊥
not_ends true y z e = cc
not_ends false true z e = cc
not_ends false false true e = cc
not_ends false false false e = cc

pub record Inside (inner : Inner) : Type 0 where
  pub bracket_end : (cs : List ℕ) → IfOk (inner.bracket cs) (EndsWith cs)
  pub index_end : (cs : List ℕ) → Ends cs (inner.index cs)

module _ (size : ℕ) (inner : Inner) (inside : Inside inner) where
  pub named_end : (cs name rest : List ℕ) → Ends rest (named size inner cs name rest)
  named_end cs name rest =
      if_cond (Ends rest) (begins open_paren rest) _ _
      (if_bind (λ x. EndsWith (tail rest) x.1) (λ x. EndsWith rest x.1) (inner.index (tail rest)) _ (inside.index_end (tail rest)) (λ x h. ends_trans rest (tail rest) x.1 (ends_tail rest) h))
      (ends_self rest)

  variable_end : (cs : List ℕ) → Ends (tail cs) (variable_at size inner cs)
  unfolding variable_at
  variable_end cs =
      if_cond (Ends (tail cs)) (begins open_brace (tail cs)) _ _
      (if_bind (EndsWith (tail (tail cs))) (λ x. EndsWith (tail cs) x.1) (at_variable_brace (tail (tail cs))) _ (variable_brace_end (tail (tail cs)))
      (λ close h. ends_trans (tail cs) (tail (tail cs)) (tail close) (ends_tail (tail cs)) (ends_trans (tail (tail cs)) close (tail close) h (ends_tail close))))
      (if_weak (λ x. EndsWith (after_name false (tail cs)) x.1) (λ x. EndsWith (tail cs) x.1) (named size inner cs (tail cs) (after_name false (tail cs))) (named_end cs (tail cs) (after_name false (tail cs)))
      (λ x h. ends_trans (tail cs) (after_name false (tail cs)) x.1 (name_end false (tail cs)) h))

  bracket_at_end : (cs : List ℕ) → Ends (tail cs) (bracket_at size inner cs)
  bracket_at_end cs = if_bind (EndsWith (tail cs)) (λ x. EndsWith (tail cs) x.1) (inner.bracket (tail cs)) _ (inside.bracket_end (tail cs)) (λ close h. ends_trans (tail cs) close (tail close) h (ends_tail close))

  piece_of_moves : (m : Mode) (k : Kind) (c : ℕ) (cs : List ℕ) → kind_of m (c ∷ cs) ≡ k → IfOk (piece_of size inner m k (c ∷ cs)) (λ t. Moves (c ∷ cs) t.0 t.1)
  piece_of_moves m kind.Ends c cs e = ends_self (c ∷ cs)
  piece_of_moves m kind.Open c cs e = tt
  piece_of_moves m kind.Backslashed c cs e = escape_past c cs
  piece_of_moves m kind.Opening c cs e = if_bind (λ x. EndsWith cs x.1) (λ t. Moves (c ∷ cs) t.0 t.1) (bracket_at size inner (c ∷ cs)) _ (bracket_at_end (c ∷ cs)) (λ x h. past_more c cs x.1 h)
  piece_of_moves m kind.Variable c cs e = if_bind (λ x. EndsWith cs x.1) (λ t. Moves (c ∷ cs) t.0 t.1) (variable_at size inner (c ∷ cs)) _ (variable_end (c ∷ cs)) (λ x h. past_more c cs x.1 h)
  piece_of_moves m kind.Plain c cs e = plain_past m c cs e

  piece_moves : (m : Mode) (cs : List ℕ) → IfOk (piece_at size inner m cs) (λ t. Moves cs t.0 t.1)
  unfolding piece_at kind_of
  piece_moves (mode.Bare nested) [] = ends_self []
  piece_moves mode.Quoted [] = tt
  piece_moves mode.Index [] = tt
  piece_moves m (c ∷ cs) = piece_of_moves m (kind_of m (c ∷ cs)) c cs refl

  pub piece_forward : (m : Mode) → Forward (piece_at size inner m)
  piece_forward m = record { each = piece_moves m }

  pub pieces_end : (m : Mode) (cs : List ℕ) → Ends cs (pieces_at size inner m cs)
  unfolding pieces_at
  pieces_end m cs = turns_end (piece_at size inner m) cs (piece_forward m)

  pub quoted_end : (cs : List ℕ) → Ends (tail cs) (quoted_at size inner cs)
  unfolding quoted_at
  quoted_end cs = if_bind (λ x. EndsWith (tail cs) x.1) (λ x. EndsWith (tail cs) x.1) (pieces_at size inner mode.Quoted (tail cs)) _ (pieces_end mode.Quoted (tail cs)) (λ x h. ends_trans (tail cs) x.1 (tail x.1) h (ends_tail x.1))

  lone_end : (cs : List ℕ) → Ends cs (lone_at size inner cs)
  lone_end cs =
      let one = cond (begins open_bracket cs) (bracket_at size inner cs) (variable_at size inner cs) in
      if_bind (λ x. EndsWith (tail cs) x.1) (λ x. EndsWith cs x.1) one _ (if_cond (Ends (tail cs)) (begins open_bracket cs) _ _ (bracket_at_end cs) (variable_end cs)) (λ x h. ends_trans cs (tail cs) x.1 (ends_tail cs) h)

  pub operand_end : (cs : List ℕ) → Ends cs (operand_at size inner cs)
  unfolding operand_at
  operand_end cs =
      if_cond (Ends cs) (begins open_brace cs) _ _
      (if_bind (λ x. EndsWith (tail cs) x.1) (λ x. EndsWith cs x.1) (braced_at size cs) _ (braced_end size cs) (λ x h. ends_trans cs (tail cs) x.1 (ends_tail cs) h))
      (if_cond (Ends cs) (begins quote cs) _ _
      (if_bind (λ x. EndsWith (tail cs) x.1) (λ x. EndsWith cs x.1) (quoted_at size inner cs) _ (quoted_end cs) (λ x h. ends_trans cs (tail cs) x.1 (ends_tail cs) h))
      (lone_end cs))

  other_pieces : (nested : Bool) (k : Kind) (c : ℕ) (cs : List ℕ) → (k ≡ kind.Ends → ⊥) → IfOk (piece_of size inner (mode.Bare nested) k (c ∷ cs)) (λ t. IsSome t.0)
  other_pieces nested kind.Ends c cs e = absurd (e refl)
  other_pieces nested kind.Open c cs e = tt
  other_pieces nested kind.Backslashed c cs e = refl
  other_pieces nested kind.Opening c cs e = if_bind (λ x. Unit {0}) (λ t. IsSome t.0) (bracket_at size inner (c ∷ cs)) _ (always (bracket_at size inner (c ∷ cs))) (λ x h. refl)
  other_pieces nested kind.Variable c cs e = if_bind (λ x. Unit {0}) (λ t. IsSome t.0) (variable_at size inner (c ∷ cs)) _ (always (variable_at size inner (c ∷ cs))) (λ x h. refl)
  other_pieces nested kind.Plain c cs e = refl

  bare_goes_on : (nested : Bool) (cs : List ℕ) → ends_word nested cs ≡ false → IfOk (piece_at size inner (mode.Bare nested) cs) (λ t. IsSome t.0)
  unfolding piece_at kind_of
  bare_goes_on nested [] e = absurd cc
  bare_goes_on nested (c ∷ cs) e = rw e (other_pieces nested _ c cs (not_ends (c == backslash) (c == open_bracket) (c == dollar && begins_variable cs)))

  -- a bare word that doesn't end at once takes a character
  bare_past : (nested : Bool) (cs : List ℕ) → ends_word nested cs ≡ false → Past cs (pieces_at size inner (mode.Bare nested) cs)
  unfolding pieces_at
  bare_past nested cs e = turns_past (piece_at size inner (mode.Bare nested)) cs (piece_forward (mode.Bare nested)) (bare_goes_on nested cs e)

  closed_is : (P : Shape × List ℕ → Type 0) (m : Syntax) (nested : Bool) (w : Shape) (rest : List ℕ) → P (w, rest) → IfOk (closed m nested w rest) P
  closed_is P m nested w rest h = if_cond (λ r. IfOk r P) (ends_word nested rest) (Ok (w, rest)) (Err m) h tt

  word_of_end : (nested expands : Bool) (f : Form) (cs : List ℕ) → Ends cs (word_of size inner nested expands f cs)
  word_of_end nested expands form.Braced cs = if_bind (λ x. EndsWith (tail cs) x.1) (λ x. EndsWith cs x.1) (braced_at size cs) _ (braced_end size cs) (λ x h. closed_is (λ x. EndsWith cs x.1) AfterBrace nested _ x.1 (ends_trans cs (tail cs) x.1 (ends_tail cs) h))
  word_of_end nested expands form.Quoted cs = if_bind (λ x. EndsWith (tail cs) x.1) (λ x. EndsWith cs x.1) (quoted_at size inner cs) _ (quoted_end cs) (λ x h. closed_is (λ x. EndsWith cs x.1) AfterQuote nested _ x.1 (ends_trans cs (tail cs) x.1 (ends_tail cs) h))
  word_of_end nested expands form.Bare cs = if_bind (λ x. EndsWith cs x.1) (λ x. EndsWith cs x.1) (pieces_at size inner (mode.Bare nested) cs) _ (pieces_end (mode.Bare nested) cs) (λ x h. h)

  -- a word that begins takes a character
  word_of_past : (nested expands : Bool) (f : Form) (c : ℕ) (cs : List ℕ) → ends_word nested (c ∷ cs) ≡ false → Past (c ∷ cs) (word_of size inner nested expands f (c ∷ cs))
  word_of_past nested expands form.Braced c cs e = if_bind (λ x. EndsWith cs x.1) (λ x. IsPast (c ∷ cs) x.1) (braced_at size (c ∷ cs)) _ (braced_end size (c ∷ cs)) (λ x h. closed_is (λ x. IsPast (c ∷ cs) x.1) AfterBrace nested _ x.1 (past_more c cs x.1 h))
  word_of_past nested expands form.Quoted c cs e = if_bind (λ x. EndsWith cs x.1) (λ x. IsPast (c ∷ cs) x.1) (quoted_at size inner (c ∷ cs)) _ (quoted_end (c ∷ cs)) (λ x h. closed_is (λ x. IsPast (c ∷ cs) x.1) AfterQuote nested _ x.1 (past_more c cs x.1 h))
  word_of_past nested expands form.Bare c cs e = if_bind (λ x. IsPast (c ∷ cs) x.1) (λ x. IsPast (c ∷ cs) x.1) (pieces_at size inner (mode.Bare nested) (c ∷ cs)) _ (bare_past nested (c ∷ cs) e) (λ x h. h)

  word_past : (nested : Bool) (cs : List ℕ) → ends_word nested cs ≡ false → Past cs (word_at size inner nested cs)
  unfolding word_at
  word_past nested [] e = absurd cc
  word_past nested (c ∷ cs) e =
      let third = tail (tail cs) in
      if_cond (Past (c ∷ cs)) (marked nested (c ∷ cs)) _ _
      (if_weak (λ x. EndsWith third x.1) (λ x. IsPast (c ∷ cs) x.1) _ (word_of_end nested true (form_of third) third)
      (λ x h. past_more c cs x.1 (ends_trans cs (tail cs) x.1 (ends_tail cs) (ends_trans (tail cs) third x.1 (ends_tail (tail cs)) h))))
      (word_of_past nested false (form_of (c ∷ cs)) c cs e)

  word_moves : (nested : Bool) (cs : List ℕ) → IfOk (next_word size inner nested cs) (λ t. Moves cs t.0 t.1)
  unfolding next_word
  word_moves nested cs =
      let rest = after_blanks cs in
      elim (cases_Bool (ends_word nested rest)) [
        | inl done ↦ rw done (blanks_end cs)
        | inr open_ ↦ rw open_ (if_bind (λ x. IsPast rest x.1) (λ t. Moves cs t.0 t.1) (word_at size inner nested rest) _ (word_past nested rest open_) (λ x h. then_past cs rest x.1 (blanks_end cs) h))
      ]

  pub word_forward : (nested : Bool) → Forward (next_word size inner nested)
  word_forward nested = record { each = word_moves nested }

  no_blanks : (nested : Bool) (cs : List ℕ) → ends_word nested cs ≡ false → after_blanks cs ≡ cs
  unfolding after_blanks
  no_blanks nested [] e = refl
  no_blanks nested (c ∷ []) e = rw (is_not_blank nested c [] e).0 refl
  no_blanks nested (c ∷ d ∷ cs) e = let both = is_not_blank nested c (d ∷ cs) e in rw (both.0, both.1) refl

  word_goes_on : (nested : Bool) (cs : List ℕ) → ends_word nested cs ≡ false → IfOk (next_word size inner nested cs) (λ t. IsSome t.0)
  unfolding next_word
  word_goes_on nested cs e =
      rw (no_blanks nested cs e, e) (if_bind (λ x. Unit {0}) (λ t. IsSome t.0) (word_at size inner nested cs) _ (always (word_at size inner nested cs)) (λ x h. refl))

  words_past : (nested : Bool) (cs : List ℕ) → ends_word nested cs ≡ false → Past cs (words_at size inner nested cs)
  unfolding words_at
  words_past nested cs e = turns_past (next_word size inner nested) cs (word_forward nested) (word_goes_on nested cs e)

  pub words_end : (nested : Bool) (cs : List ℕ) → Ends cs (words_at size inner nested cs)
  unfolding words_at
  words_end nested cs = turns_end (next_word size inner nested) cs (word_forward nested)

  pub command_end : (cs : List ℕ) → EndsWith cs (after_command cs)
  command_end cs = if_cond (EndsWith cs) (begins close_bracket cs) cs (tail cs) (ends_self cs) (ends_tail cs)

  first_moves : (nested : Bool) (cs : List ℕ) → IfOk (first_at size inner nested cs) (λ t. Moves cs t.0 t.1)
  unfolding first_at
  first_moves nested cs =
      let rest = after_gaps gap.Between cs in
      elim (cases_Bool (ends_word nested rest)) [
        | inl done ↦ rw done (gaps_end gap.Between cs)
        | inr open_ ↦ rw open_ (if_bind (λ x. IsPast rest x.1) (λ t. Moves cs t.0 t.1) (words_at size inner nested rest) _ (words_past nested rest open_)
            (λ x h. then_past cs rest (after_command x.1) (gaps_end gap.Between cs) (past_then rest x.1 (after_command x.1) h (command_end x.1))))
      ]

  pub first_forward : (nested : Bool) → Forward (first_at size inner nested)
  first_forward nested = record { each = first_moves nested }

  commands_end : (nested : Bool) (cs : List ℕ) → IfOk (after_commands size inner nested cs) (EndsWith cs)
  unfolding after_commands commands_at
  commands_end nested cs = if_bind (λ x. EndsWith cs x.1) (EndsWith cs) (all_turns (first_at size inner nested) cs) _ (turns_end (first_at size inner nested) cs (first_forward nested)) (λ x h. h)

closing_end : (cs : List ℕ) → IfOk (closing cs) (EndsWith cs)
closing_end [] = tt
closing_end (c ∷ cs) = ends_self (c ∷ cs)

pub inner_inside : (size levels : ℕ) → Inside (inner_at size levels)
unfolding inner_at
inner_inside size zero = record { bracket_end = λ cs. tt; index_end = λ cs. tt }
inner_inside size (suc levels) =
    let below = inner_inside size levels in
    record {
      bracket_end = λ cs.
          if_bind (EndsWith cs) (EndsWith cs) (after_commands size (inner_at size levels) true cs) closing (commands_end size (inner_at size levels) below true cs) (λ r h. if_weak (EndsWith r) (EndsWith cs) (closing r) (closing_end r) (λ t k. ends_trans cs r t h k));
      index_end = λ cs.
          if_bind (λ x. EndsWith cs x.1) (λ x. EndsWith cs x.1) (pieces_at size (inner_at size levels) mode.Index cs) _ (pieces_end size (inner_at size levels) below mode.Index cs) (λ x h. ends_trans cs x.1 (tail x.1) h (ends_tail x.1));
    }
