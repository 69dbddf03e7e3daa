-- The fault that is found is the one that stands there.
use Rattle.std.proofs.Common.{◌≡◌, ℕ, zero, suc, ◌+◌, ◌-◌, ◌<◌, Bool, true, false, ◌&&◌, ◌==◌, List, [], ◌∷◌, ◌++◌, length, Option, Some, None, Result, Ok, Err, refl, sym, ap, subst, ◌∙◌, arith, inl, inr, ◌⊎◌}
use Rattle.std.specs.Prelude.{IfErr}
use Rattle.std.proofs.lemmas.Bool.{cases_Bool, and_parts, true≢false}
use Rattle.tcl_chars.specs.Characters.{backslash, dollar, quote, open_bracket, open_brace, close_brace, open_paren}
use Rattle.tcl_chars.specs.Place.{EndsWith, begins, tail, before, place}
use Rattle.tcl_chars.specs.Reading.{◌>>=◌, Reading, with_front, after_turn, turns, all_turns}
use Rattle.tcl_chars.proofs.SpelledIndices.{cut_at}
use Rattle.tcl_chars.proofs.Turns.{Shrinks, shorter}
use Rattle.tcl_words.specs.declared.blanks.Gap.TheVariants as gap
use Rattle.tcl_words.specs.declared.fault.Syntax.{Syntax}
use Rattle.tcl_words.specs.declared.fault.Syntax.TheVariants.{AfterBrace, AfterQuote, MissingBrace, MissingVariableBrace}
use Rattle.tcl_words.specs.declared.front.Kind.{Kind}
use Rattle.tcl_words.specs.declared.front.Kind.TheVariants as kind
use Rattle.tcl_words.specs.declared.front.Mode.{Mode}
use Rattle.tcl_words.specs.declared.front.Mode.TheVariants as mode
use Rattle.tcl_words.specs.declared.word.Form.{Form}
use Rattle.tcl_words.specs.declared.word.Form.TheVariants as form
use Rattle.tcl_words.specs.Faults.{NeverCloses, Unended, BadPiece, BadPieces, BadBody, BadWord, BadWords, BadCommand, BadCommands}
use Rattle.tcl_words.specs.Parts.{Part, Shape}
use Rattle.tcl_words.specs.Spelling.{ends_word, begins_variable, marked, IsLongestName, lacks, Pieces, Commands}
use Rattle.tcl_words.specs.Words.{after_blanks, after_gaps, after_name, at_variable_brace, at_brace, verbatim_at, braced_at, begins_hidden_newline, kind_of, ends_pieces, fault_at_end, form_of, closed, Inner, inner_at, named, variable_at, bracket_at, piece_of, piece_at, pieces_at, quoted_at, word_of, word_at, next_word, words_at, first_at, commands_at, after_commands, closing}
use Rattle.tcl_chars.proofs.Ends.{if_ok, forward_shrinks}
use Rattle.tcl_words.proofs.Forward.{verbatim_forward, piece_forward, word_forward, first_forward, inner_inside, name_end}
use Rattle.tcl_words.proofs.ReadIsSpelled.{headed, longest_before, BracedText, braced_spelled, quoted_spelled, braced_body, quoted_body, KindIs, kind_facts, FormIs, form_facts, mark_parts, no_comment, gaps_passed, PieceIs, piece_is, WordIs, word_is, FirstSpelled, first_spelled, commands_spelled, nest_spelled}
use Rattle.tcl_words.proofs.ScansSpelled.{one_is, blanks_spelled, gaps_spelled, braces_read}

-- ---- steps that fail

pub err_bind : {A B : Type 0} (P : Syntax → Type 0) (r : Result A Syntax) (f : A → Result B Syntax) → IfErr r P → ((x : A) → r ≡ Ok x → IfErr (f x) P) → IfErr (r >>= f) P
err_bind P (Ok x) f h k = k x refl
err_bind P (Err m) f h k = h

pub err_weak : {A : Type 0} (P Q : Syntax → Type 0) (r : Result A Syntax) → IfErr r P → ((m : Syntax) → P m → Q m) → IfErr r Q
err_weak P Q (Ok x) h k = tt
err_weak P Q (Err m) h k = k m h

front_err : {A : Type 0} (P : Syntax → Type 0) (front : List A) (r : Result (List A × List ℕ) Syntax) → IfErr r P → IfErr (with_front front r) P
front_err P front (Ok x) h = tt
front_err P front (Err m) h = h

turn_err : {A : Type 0} (P : Syntax → Type 0) (next : Reading Syntax (List A)) (r : Result (Option A × List ℕ) Syntax) → IfErr r P → ((x : A) (rest : List ℕ) → r ≡ Ok (Some x, rest) → IfErr (next rest) P)
    → IfErr (r >>= λ t. after_turn next t.0 t.1) P
turn_err P next (Err m) h k = h
turn_err P next (Ok (None, rest)) h k = tt
turn_err P next (Ok (Some x, rest)) h k = front_err P (x ∷ []) (next rest) (k x rest refl)

turns_err_n : {A : Type 0} (R : List ℕ → Syntax → Type 0) (step : Reading Syntax (Option A)) (n : ℕ) (cs : List ℕ) → Shrinks step → ((ds : List ℕ) → IfErr (step ds) (R ds))
    → ((ds : List ℕ) (x : A) (rest : List ℕ) (m : Syntax) → step ds ≡ Ok (Some x, rest) → R rest m → R ds m) → length cs < n → IfErr (turns step n cs) (R cs)
unfolding turns
turns_err_n R step zero cs h each more l = absurd (omega arith)
turns_err_n R step (suc n) cs h each more l =
    turn_err (R cs) (turns step n) (step cs) (each cs)
    (λ x rest e. err_weak (R rest) (R cs) (turns step n rest) (turns_err_n R step n rest h each more (omega (arith, shorter step cs x rest h e))) (λ m k. more cs x rest m e k))

turns_err : {A : Type 0} (R : List ℕ → Syntax → Type 0) (step : Reading Syntax (Option A)) (cs : List ℕ) → Shrinks step → ((ds : List ℕ) → IfErr (step ds) (R ds))
    → ((ds : List ℕ) (x : A) (rest : List ℕ) (m : Syntax) → step ds ≡ Ok (Some x, rest) → R rest m → R ds m) → IfErr (all_turns step cs) (R cs)
unfolding all_turns
turns_err R step cs h each more = turns_err_n R step (suc (length cs)) cs h each more (omega arith)

-- ---- scans

pub brace_errs : (h : Bool) (d : ℕ) (cs : List ℕ) → IfErr (at_brace h d cs) (λ m. m ≡ MissingBrace)
unfolding at_brace
brace_errs h d [] = refl
brace_errs true d (c ∷ cs) = brace_errs false d cs
brace_errs false d (c ∷ cs) = elim (cases_Bool (c == close_brace)) [
  | inl e ↦ elim (cases_Bool (d == 0)) [
    | inl z ↦ rw (e, z) tt
    | inr z ↦ rw (e, z) (brace_errs false (d - 1) cs)
  ]
  | inr e ↦ elim (cases_Bool (c == open_brace)) [
    | inl o ↦ rw (e, o) (brace_errs false (d + 1) cs)
    | inr o ↦ rw (e, o) (brace_errs (c == backslash) d cs)
  ]
]

ok_not_err : {A : Type 0} (r : Result A Syntax) (x : A) (m : Syntax) → r ≡ Err m → r ≡ Ok x → ⊥
ok_not_err {A = A} r x m e f = let w : (let s : Result A Syntax = Err m in s ≡ Ok x) = sym e ∙ f in cc

never_closes : (cs : List ℕ) (r : Result (List ℕ) Syntax) → at_brace false 0 cs ≡ r → IfErr r (λ m. NeverCloses cs)
never_closes cs (Ok x) e = tt
never_closes cs (Err m) e = λ inside rest b j. ok_not_err (at_brace false 0 cs) (close_brace ∷ rest) m e (ap (at_brace false 0) j ∙ braces_read inside rest b)

variable_brace_errs : (cs : List ℕ) → IfErr (at_variable_brace cs) (λ m. (m ≡ MissingVariableBrace) × (lacks close_brace cs ≡ true))
unfolding at_variable_brace
variable_brace_errs [] = (refl, refl)
variable_brace_errs (c ∷ cs) = elim (cases_Bool (c == close_brace)) [
  | inl e ↦ rw e tt
  | inr e ↦ rw e (variable_brace_errs cs)
]

verbatim_fine : (size : ℕ) (cs : List ℕ) → IfErr (verbatim_at size cs) (λ m. ⊥)
unfolding verbatim_at
verbatim_fine size [] = tt
verbatim_fine size (c ∷ cs) = elim (cases_Bool (begins_hidden_newline (c ∷ cs))) [
  | inl h ↦ rw h tt
  | inr h ↦ rw h tt
]

pub braced_errs : (size : ℕ) (cs : List ℕ) → IfErr (braced_at size cs) (λ m. (m ≡ MissingBrace) × NeverCloses (tail cs))
unfolding braced_at
braced_errs size cs =
    err_bind (λ m. (m ≡ MissingBrace) × NeverCloses (tail cs)) (at_brace false 0 (tail cs)) _ (both (at_brace false 0 (tail cs)) (brace_errs false 0 (tail cs)) (never_closes (tail cs) (at_brace false 0 (tail cs)) refl))
    (λ close e. err_bind (λ m. (m ≡ MissingBrace) × NeverCloses (tail cs)) (all_turns (verbatim_at (place size close)) (before (tail cs) close)) _
    (err_weak (λ m. ⊥) (λ m. (m ≡ MissingBrace) × NeverCloses (tail cs)) (all_turns (verbatim_at (place size close)) (before (tail cs) close))
    (turns_err (λ ds m. ⊥) (verbatim_at (place size close)) (before (tail cs) close) (forward_shrinks (verbatim_at (place size close)) (verbatim_forward (place size close))) (verbatim_fine (place size close)) (λ ds x rest m f h. h)) (λ m h. absurd h)) (λ x e. tt))
  where
    both : (r : Result (List ℕ) Syntax) → IfErr r (λ m. m ≡ MissingBrace) → IfErr r (λ m. NeverCloses (tail cs)) → IfErr r (λ m. (m ≡ MissingBrace) × NeverCloses (tail cs))
    both (Ok x) h k = tt
    both (Err m) h k = (h, k)

-- ---- pieces, words and commands, where the same is known of what nests

pub record NestFound (size levels : ℕ) : Type 0 where
  pub script : (cs : List ℕ) → IfErr ((inner_at size levels).bracket cs) (BadPiece size levels (open_bracket ∷ cs))
  pub index : (cs name index : List ℕ) → cs ≡ name ++ open_paren ∷ index → IsLongestName cs name → IfErr ((inner_at size levels).index index) (BadPiece size levels (dollar ∷ cs))

-- a piece is faulty, or the text ends before the pieces do
abbrev pub PiecesBad : ℕ → ℕ → Mode → List ℕ → Syntax → Type 0
PiecesBad size levels m cs e = BadPieces size levels (ends_pieces m) cs e ⊎ (Unended size levels (ends_pieces m) cs × (e ≡ fault_at_end m))

-- a bare word ends where the text does
bare_ends : (size levels : ℕ) (ends : List ℕ → Bool) (cs : List ℕ) → Unended size levels ends cs → ends [] ≡ true → ⊥
bare_ends size _ _ _ (Unended.at_end levels ends e) h = true≢false (sym h ∙ e)
bare_ends size _ _ _ (Unended.piece levels ends cs p after e q u) h = bare_ends size levels ends after u h

module _ (size levels : ℕ) (below : NestFound size levels) where
  abbrev inner : Inner
  inner = inner_at size levels

  pub bracket_bad : (cs : List ℕ) → IfErr (bracket_at size inner (open_bracket ∷ cs)) (BadPiece size levels (open_bracket ∷ cs))
  bracket_bad cs = err_bind (BadPiece size levels (open_bracket ∷ cs)) (inner.bracket cs) _ (below.script cs) (λ close e. tt)

  named_bad : (cs rest : List ℕ) → rest ≡ after_name false cs → IfErr (named size inner (dollar ∷ cs) cs rest) (BadPiece size levels (dollar ∷ cs))
  named_bad cs rest r = elim (cases_Bool (begins open_paren rest)) [
    | inl p ↦
        let there : EndsWith cs rest = subst (EndsWith cs) (sym r) (name_end false cs) in
        let longest : IsLongestName cs (before cs rest) = subst (λ t. IsLongestName cs (before cs t)) (sym r) (longest_before cs) in
        rw p (err_bind (BadPiece size levels (dollar ∷ cs)) (inner.index (tail rest)) _ (below.index cs (before cs rest) (tail rest) (cut_at cs rest there ∙ ap (λ t. before cs rest ++ t) (headed open_paren rest p)) longest) (λ x e. tt))
    | inr p ↦ rw p tt
  ]

  pub variable_bad : (cs : List ℕ) → IfErr (variable_at size inner (dollar ∷ cs)) (BadPiece size levels (dollar ∷ cs))
  unfolding variable_at
  variable_bad [] = named_bad [] (after_name false []) refl
  variable_bad (c ∷ cs) = elim (cases_Bool (c == open_brace)) [
    | inl o ↦ rw o (
        err_bind (BadPiece size levels (dollar ∷ c ∷ cs)) (at_variable_brace cs) _
        (err_weak (λ m. (m ≡ MissingVariableBrace) × (lacks close_brace cs ≡ true)) (BadPiece size levels (dollar ∷ c ∷ cs)) (at_variable_brace cs) (variable_brace_errs cs)
        (λ m h. subst (BadPiece size levels (dollar ∷ c ∷ cs)) (sym h.0) (one_is (λ x. BadPiece size levels (dollar ∷ x ∷ cs) MissingVariableBrace) c open_brace o (BadPiece.open_name levels cs h.1)))) (λ close e. tt))
    | inr o ↦ rw o (named_bad (c ∷ cs) (after_name false (c ∷ cs)) refl)
  ]

  -- ---- pieces

  bad_here : (m : Mode) (cs : List ℕ) → ends_pieces m cs ≡ false → (e : Syntax) → BadPiece size levels cs e → PiecesBad size levels m cs e
  bad_here m cs h e b = inl (BadPieces.piece_here levels (ends_pieces m) cs e h b)

  piece_of_bad : (m : Mode) (k : Kind) (c : ℕ) (cs : List ℕ) → KindIs k (ends_pieces m (c ∷ cs)) (c == backslash) (c == open_bracket) (c == dollar && begins_variable cs)
      → IfErr (piece_of size inner m k (c ∷ cs)) (PiecesBad size levels m (c ∷ cs))
  piece_of_bad m kind.Ends c cs h = tt
  piece_of_bad m kind.Open c cs h = absurd h
  piece_of_bad m kind.Backslashed c cs h = tt
  piece_of_bad m kind.Opening c cs (a, b) =
      err_bind (PiecesBad size levels m (c ∷ cs)) (bracket_at size inner (c ∷ cs)) _
      (err_weak (BadPiece size levels (c ∷ cs)) (PiecesBad size levels m (c ∷ cs)) (bracket_at size inner (c ∷ cs)) (one_is (λ y. IfErr (bracket_at size inner (y ∷ cs)) (BadPiece size levels (y ∷ cs))) c open_bracket b (bracket_bad cs)) (bad_here m (c ∷ cs) a))
      (λ x e. tt)
  piece_of_bad m kind.Variable c cs (a, b) =
      err_bind (PiecesBad size levels m (c ∷ cs)) (variable_at size inner (c ∷ cs)) _
      (err_weak (BadPiece size levels (c ∷ cs)) (PiecesBad size levels m (c ∷ cs)) (variable_at size inner (c ∷ cs))
      (one_is (λ y. IfErr (variable_at size inner (y ∷ cs)) (BadPiece size levels (y ∷ cs))) c dollar (and_parts (c == dollar) (begins_variable cs) b).0 (variable_bad cs)) (bad_here m (c ∷ cs) a)) (λ x e. tt)
  piece_of_bad m kind.Plain c cs h = tt

  piece_bad : (m : Mode) (cs : List ℕ) → IfErr (piece_at size inner m cs) (PiecesBad size levels m cs)
  unfolding piece_at kind_of
  piece_bad (mode.Bare nested) [] = tt
  piece_bad mode.Quoted [] = inr (Unended.at_end levels (ends_pieces mode.Quoted) refl, refl)
  piece_bad mode.Index [] = inr (Unended.at_end levels (ends_pieces mode.Index) refl, refl)
  piece_bad m (c ∷ cs) = piece_of_bad m (kind_of m (c ∷ cs)) c cs (kind_facts (ends_pieces m (c ∷ cs)) (c == backslash) (c == open_bracket) (c == dollar && begins_variable cs))

  piece_more : (m : Mode) (cs : List ℕ) (p : Part) (rest : List ℕ) (e : Syntax) → piece_at size inner m cs ≡ Ok (Some p, rest) → PiecesBad size levels m rest e → PiecesBad size levels m cs e
  piece_more m cs p rest e h k =
      let (goes_on, q) = if_ok (λ t. PieceIs size levels (nest_spelled size levels) m cs t.0 t.1) (piece_at size inner m cs) (Some p, rest) (piece_is size levels (nest_spelled size levels) m cs) h in
      elim k [
        | inl b ↦ inl (BadPieces.piece_later levels (ends_pieces m) cs p rest e goes_on q b)
        | inr (u, v) ↦ inr (Unended.piece levels (ends_pieces m) cs p rest goes_on q u, v)
      ]

  pub pieces_bad : (m : Mode) (cs : List ℕ) → IfErr (pieces_at size inner m cs) (PiecesBad size levels m cs)
  unfolding pieces_at
  pieces_bad m cs = turns_err (PiecesBad size levels m) (piece_at size inner m) cs (forward_shrinks (piece_at size inner m) (piece_forward size inner (inner_inside size levels) m)) (piece_bad m) (piece_more m)

  -- ---- words

  closed_bad : (P : Syntax → Type 0) (m : Syntax) (nested : Bool) (w : Shape) (rest : List ℕ) → (ends_word nested rest ≡ false → P m) → IfErr (closed m nested w rest) P
  closed_bad P m nested w rest h = elim (cases_Bool (ends_word nested rest)) [
    | inl here ↦ rw here tt
    | inr other ↦ rw other (h other)
  ]

  quoted_bad : (nested : Bool) (cs : List ℕ) → begins quote cs ≡ true → IfErr (quoted_at size inner cs) (BadBody size levels nested cs)
  unfolding quoted_at
  quoted_bad nested cs q =
      err_bind (BadBody size levels nested cs) (pieces_at size inner mode.Quoted (tail cs)) _
      (err_weak (PiecesBad size levels mode.Quoted (tail cs)) (BadBody size levels nested cs) (pieces_at size inner mode.Quoted (tail cs)) (pieces_bad mode.Quoted (tail cs))
      (λ m h. subst (λ t. BadBody size levels nested t m) (sym (headed quote cs q)) (elim h [
        | inl b ↦ BadBody.in_quotes levels nested (tail cs) m b
        | inr (u, v) ↦ subst (BadBody size levels nested (quote ∷ tail cs)) (sym v) (BadBody.open_quotes levels nested (tail cs) u)
      ]))) (λ x e. tt)

  word_of_bad : (nested expands : Bool) (f : Form) (cs : List ℕ) → FormIs f (begins open_brace cs) (begins quote cs) → IfErr (word_of size inner nested expands f cs) (BadBody size levels nested cs)
  word_of_bad nested expands form.Braced cs b =
      err_bind (BadBody size levels nested cs) (braced_at size cs) _
      (err_weak (λ m. (m ≡ MissingBrace) × NeverCloses (tail cs)) (BadBody size levels nested cs) (braced_at size cs) (braced_errs size cs)
      (λ m h. subst (BadBody size levels nested cs) (sym h.0) (subst (λ t. BadBody size levels nested t MissingBrace) (sym (headed open_brace cs b)) (BadBody.open_braces levels nested (tail cs) h.1))))
      (λ x e. closed_bad (BadBody size levels nested cs) AfterBrace nested _ x.1
      (λ other. BadBody.extra levels nested cs form.Braced x.0 x.1 AfterBrace (braced_body size levels (nest_spelled size levels) nested cs x.0 x.1 b (if_ok (BracedText size (tail cs)) (braced_at size cs) x (braced_spelled size cs) e)) other refl))
  word_of_bad nested expands form.Quoted cs q =
      err_bind (BadBody size levels nested cs) (quoted_at size inner cs) _ (quoted_bad nested cs q)
      (λ x e. closed_bad (BadBody size levels nested cs) AfterQuote nested _ x.1
      (λ other. BadBody.extra levels nested cs form.Quoted x.0 x.1 AfterQuote
      (quoted_body size levels (nest_spelled size levels) nested cs x.0 x.1 q (if_ok (λ y. Pieces size levels (begins quote) (tail cs) y.0 (quote ∷ y.1)) (quoted_at size inner cs) x (quoted_spelled size levels (nest_spelled size levels) cs) e)) other refl))
  word_of_bad nested expands form.Bare cs (b, q) =
      err_bind (BadBody size levels nested cs) (pieces_at size inner (mode.Bare nested) cs) _
      (err_weak (PiecesBad size levels (mode.Bare nested) cs) (BadBody size levels nested cs) (pieces_at size inner (mode.Bare nested) cs) (pieces_bad (mode.Bare nested) cs)
      (λ m h. elim h [
        | inl k ↦ BadBody.in_bare levels nested cs m b q k
        | inr (u, v) ↦ absurd (bare_ends size levels (ends_word nested) cs u refl)
      ])) (λ x e. tt)

  word_bad : (nested : Bool) (cs : List ℕ) → IfErr (word_at size inner nested cs) (BadWord size levels nested cs)
  unfolding word_at
  word_bad nested cs = elim (cases_Bool (marked nested cs)) [
    | inl starred ↦ rw starred (
        let third = tail (tail (tail cs)) in
        let (at, goes_on) = mark_parts nested cs starred in
        err_weak (BadBody size levels nested third) (BadWord size levels nested cs) (word_of size inner nested true (form_of third) third) (word_of_bad nested true (form_of third) third (form_facts (begins open_brace third) (begins quote third)))
        (λ m b. subst (λ t. BadWord size levels nested t m) (sym at) (BadWord.behind_mark levels nested third m goes_on b)))
    | inr other ↦ rw other (
        err_weak (BadBody size levels nested cs) (BadWord size levels nested cs) (word_of size inner nested false (form_of cs) cs) (word_of_bad nested false (form_of cs) cs (form_facts (begins open_brace cs) (begins quote cs)))
        (λ m b. BadWord.without_mark levels nested cs m other b))
  ]

  -- ---- commands

  next_bad : (nested : Bool) (cs : List ℕ) → IfErr (next_word size inner nested cs) (BadWords size levels nested cs)
  unfolding next_word
  next_bad nested cs =
      let here = after_blanks cs in
      elim (cases_Bool (ends_word nested here)) [
        | inl stop ↦ rw stop tt
        | inr more ↦ rw more (
            err_bind (BadWords size levels nested cs) (word_at size inner nested here) _
            (err_weak (BadWord size levels nested here) (BadWords size levels nested cs) (word_at size inner nested here) (word_bad nested here) (λ m b. BadWords.word_here levels nested cs here m (blanks_spelled cs) more b)) (λ x e. tt))
      ]

  word_more : (nested : Bool) (cs : List ℕ) (w : Shape) (rest : List ℕ) (e : Syntax) → next_word size inner nested cs ≡ Ok (Some w, rest) → BadWords size levels nested rest e → BadWords size levels nested cs e
  word_more nested cs w rest e h k =
      let (here, b, more, q) = if_ok (λ t. WordIs size levels (nest_spelled size levels) nested cs t.0 t.1) (next_word size inner nested cs) (Some w, rest) (word_is size levels (nest_spelled size levels) nested cs) h in
      BadWords.word_later levels nested cs here w rest e b more q k

  words_bad : (nested : Bool) (cs : List ℕ) → IfErr (words_at size inner nested cs) (BadWords size levels nested cs)
  unfolding words_at
  words_bad nested cs = turns_err (BadWords size levels nested) (next_word size inner nested) cs (forward_shrinks (next_word size inner nested) (word_forward size inner (inner_inside size levels) nested)) (next_bad nested) (word_more nested)

  pub first_bad : (nested : Bool) (cs : List ℕ) → IfErr (first_at size inner nested cs) (BadCommand size levels nested cs)
  unfolding first_at
  first_bad nested cs =
      let here = after_gaps gap.Between cs in
      elim (cases_Bool (ends_word nested here)) [
        | inl stop ↦ rw stop tt
        | inr more ↦ rw more (
            err_bind (BadCommand size levels nested cs) (words_at size inner nested here) _
            (err_weak (BadWords size levels nested here) (BadCommand size levels nested cs) (words_at size inner nested here) (words_bad nested here)
            (λ m b. BadCommand.bad_command levels nested cs here m (gaps_spelled gap.Between cs) (no_comment here (gaps_passed gap.Between cs)) more b)) (λ x e. tt))
      ]

  command_more : (nested : Bool) (cs : List ℕ) (ws : List Shape) (rest : List ℕ) (e : Syntax) → first_at size inner nested cs ≡ Ok (Some ws, rest) → BadCommands size levels nested rest e → BadCommands size levels nested cs e
  command_more nested cs ws rest e h k =
      BadCommands.command_later levels nested cs ws rest e (if_ok (λ t. FirstSpelled size levels nested cs t.0 t.1) (first_at size inner nested cs) (Some ws, rest) (first_spelled size levels (nest_spelled size levels) nested cs) h) k

  pub commands_bad : (nested : Bool) (cs : List ℕ) → IfErr (commands_at size inner nested cs) (BadCommands size levels nested cs)
  unfolding commands_at
  commands_bad nested cs =
      turns_err (BadCommands size levels nested) (first_at size inner nested) cs (forward_shrinks (first_at size inner nested) (first_forward size inner (inner_inside size levels) nested))
      (λ ds. err_weak (BadCommand size levels nested ds) (BadCommands size levels nested ds) (first_at size inner nested ds) (first_bad nested ds) (λ m b. BadCommands.command_here levels nested ds m b)) (command_more nested)

-- ---- one level more

script_open : (size levels : ℕ) (cs rest : List ℕ) (commands : List (List Shape)) → Commands size levels true cs commands rest → IfErr (closing rest) (BadPiece size (suc levels) (open_bracket ∷ cs))
script_open size levels cs [] commands k = BadPiece.open_script (suc levels) levels cs commands refl k
script_open size levels cs (c ∷ rest) commands k = tt

script_found : (size n : ℕ) → NestFound size n → (cs : List ℕ) → IfErr ((inner_at size (suc n)).bracket cs) (BadPiece size (suc n) (open_bracket ∷ cs))
unfolding inner_at after_commands
script_found size n below cs =
    let P : Syntax → Type 0 = BadPiece size (suc n) (open_bracket ∷ cs) in
    err_bind P (commands_at size (inner_at size n) true cs >>= λ found. Ok found.1) closing
    (err_bind P (commands_at size (inner_at size n) true cs) _
    (err_weak (BadCommands size n true cs) P (commands_at size (inner_at size n) true cs) (commands_bad size n below true cs) (λ m b. BadPiece.in_script (suc n) n cs m refl b)) (λ x e. tt))
    (λ rest e. found rest (commands_at size (inner_at size n) true cs) refl e)
  where
    found : (rest : List ℕ) (r : Result (List (List Shape) × List ℕ) Syntax) → commands_at size (inner_at size n) true cs ≡ r → (r >>= λ found. Ok found.1) ≡ Ok rest → IfErr (closing rest) (BadPiece size (suc n) (open_bracket ∷ cs))
    found rest (Err m) e f = absurd cc
    found rest (Ok x) e f =
        let k = if_ok (λ y. Commands size n true cs y.0 y.1) (commands_at size (inner_at size n) true cs) x (commands_spelled size n (nest_spelled size n) true cs) e in
        let same : x.1 ≡ rest = cc in
        script_open size n cs rest x.0 (subst (λ t. Commands size n true cs x.0 t) same k)

index_found : (size n : ℕ) → NestFound size n → (cs name index : List ℕ) → cs ≡ name ++ open_paren ∷ index → IsLongestName cs name → IfErr ((inner_at size (suc n)).index index) (BadPiece size (suc n) (dollar ∷ cs))
unfolding inner_at
index_found size n below cs name index j l =
    let P : Syntax → Type 0 = BadPiece size (suc n) (dollar ∷ cs) in
    err_bind P (pieces_at size (inner_at size n) mode.Index index) _
    (err_weak (PiecesBad size n mode.Index index) P (pieces_at size (inner_at size n) mode.Index index) (pieces_bad size n below mode.Index index) (λ m h. elim h [
      | inl b ↦ BadPiece.in_index (suc n) n cs name index m refl j l b
      | inr (u, v) ↦ subst P (sym v) (BadPiece.open_index (suc n) n cs name index refl j l u)
    ])) (λ x e. tt)

pub nest_found : (size levels : ℕ) → NestFound size levels
unfolding inner_at
nest_found size zero = record { script = λ cs. BadPiece.deep_script zero cs refl; index = λ cs name index j l. BadPiece.deep_index zero cs name index refl j l }
nest_found size (suc n) = let below = nest_found size n in record { script = λ cs. script_found size n below cs; index = λ cs name index j l. index_found size n below cs name index j l }
