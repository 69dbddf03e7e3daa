-- A reading that goes on: each move leaves what comes of the text as it is.
use Rattle.std.proofs.Common.{◌≡◌, ℕ, suc, ◌-◌, Bool, true, false, ◌==◌, List, [], ◌∷◌, Option, Some, None, Result, Ok, Err, refl, sym, ap, ◌∙◌, arith, inl, inr}
use Rattle.std.specs.Prelude.{if◌then◌else◌}
use Rattle.std.proofs.lemmas.Bool.{cases_Bool}
use Rattle.tcl_chars.specs.Place.{tail, place, before}
use Rattle.tcl_chars.specs.Reading.{◌>>=◌, Reading, with_front, all_turns}
use Rattle.tcl_chars.proofs.Ends.{forward_shrinks}
use Rattle.tcl_chars.proofs.Turns.{Shrinks, one_turn, last_turn, bad_turn}
use Rattle.tcl_words.specs.declared.blanks.Gap.TheVariants as gap
use Rattle.tcl_words.specs.declared.fault.Syntax.{Syntax}
use Rattle.tcl_words.specs.declared.fault.Syntax.TheVariants.{AfterBrace, AfterQuote}
use Rattle.tcl_words.specs.declared.front.Kind.{Kind}
use Rattle.tcl_words.specs.declared.front.Kind.TheVariants as kind
use Rattle.tcl_words.specs.declared.front.Mode.{Mode}
use Rattle.tcl_words.specs.declared.front.Mode.TheVariants as mode
use Rattle.tcl_words.specs.declared.word.Form.TheVariants as form
use Rattle.tcl_words.specs.Parts.{Part, text, bracket, Shape}
use Rattle.tcl_words.specs.Waiting.{Script, mode_in, commands_then, words_then, behind, word_ends, pieces_then, form_then, in_bracket}
use Rattle.tcl_words.specs.Words.{after_blanks, after_gaps, ends_word, kind_of, is_plain, after_plain, at_brace, braced_at, after_command, marked, pieces_at, piece_at, piece_of, quoted_at, closed, word_of, word_at, next_word, words_at, first_at, commands_at, after_commands, closing, inner_at, stretch, verbatim_at}
use Rattle.tcl_words.proofs.Forward.{piece_forward, word_forward, first_forward, inner_inside}
use Rattle.tcl_words.proofs.LongerPieces.{inside_fine}

-- ---- turns, and what follows them

front_then : {A : Type 0} (x : A) (r : Result (List A × List ℕ) Syntax) (j : List ℕ → Result (List ℕ) Syntax) → (with_front (x ∷ []) r >>= λ found. j found.1) ≡ (r >>= λ found. j found.1)
front_then x (Ok p) j = refl
front_then x (Err m) j = refl

module _ {A : Type 0} (step : Reading Syntax (Option A)) (shrinks : Shrinks step) (j : List ℕ → Result (List ℕ) Syntax) where
  pub then_more : (cs : List ℕ) (x : A) (rest : List ℕ) → step cs ≡ Ok (Some x, rest) → (all_turns step cs >>= λ found. j found.1) ≡ (all_turns step rest >>= λ found. j found.1)
  then_more cs x rest e = ap (λ (r : Result (List A × List ℕ) Syntax). r >>= λ found. j found.1) (one_turn step cs x rest shrinks e) ∙ front_then x (all_turns step rest) j

  pub then_done : (cs rest : List ℕ) → step cs ≡ Ok (None, rest) → (all_turns step cs >>= λ found. j found.1) ≡ j rest
  then_done cs rest e = ap (λ (r : Result (List A × List ℕ) Syntax). r >>= λ found. j found.1) (last_turn step cs rest e)

  pub then_bad : (cs : List ℕ) (m : Syntax) → step cs ≡ Err m → (all_turns step cs >>= λ found. j found.1) ≡ Err m
  then_bad cs m e = ap (λ (r : Result (List A × List ℕ) Syntax). r >>= λ found. j found.1) (bad_turn step cs m e)

rest_then : {A : Type 0} (r : Result (A × List ℕ) Syntax) (j : List ℕ → Result (List ℕ) Syntax) → ((r >>= λ found. Ok found.1) >>= j) ≡ (r >>= λ found. j found.1)
rest_then (Ok p) j = refl
rest_then (Err m) j = refl

-- ---- scripts

module _ (size : ℕ) (s : Script) where
  commands_shrink : Shrinks (first_at size (inner_at size s.levels) s.nested)
  commands_shrink = forward_shrinks _ (first_forward size (inner_at size s.levels) (inner_inside size s.levels) s.nested)

  words_shrink : Shrinks (next_word size (inner_at size s.levels) s.nested)
  words_shrink = forward_shrinks _ (word_forward size (inner_at size s.levels) (inner_inside size s.levels) s.nested)

  pub pieces_shrink : (m : Mode) → Shrinks (piece_at size (inner_at size s.levels) m)
  pieces_shrink m = forward_shrinks _ (piece_forward size (inner_at size s.levels) (inner_inside size s.levels) m)

  commands_are : (cs : List ℕ) → commands_then size s cs ≡ (all_turns (first_at size (inner_at size s.levels) s.nested) cs >>= λ found. s.next found.1)
  unfolding after_commands commands_at
  commands_are cs = rest_then (all_turns (first_at size (inner_at size s.levels) s.nested) cs) s.next

  -- a command begins
  command_of : (cs : List ℕ) (r : Result (List Shape × List ℕ) Syntax) → first_at size (inner_at size s.levels) s.nested cs ≡ (r >>= λ words. Ok (Some words.0, after_command words.1))
      → (all_turns (first_at size (inner_at size s.levels) s.nested) cs >>= λ found. s.next found.1) ≡ (r >>= λ found. commands_then size s (after_command found.1))
  command_of cs (Err m) e = then_bad (first_at size (inner_at size s.levels) s.nested) commands_shrink s.next cs m e
  command_of cs (Ok p) e = then_more (first_at size (inner_at size s.levels) s.nested) commands_shrink s.next cs p.0 (after_command p.1) e ∙ sym (commands_are (after_command p.1))

  pub command_begins : (cs rest : List ℕ) → after_gaps gap.Between cs ≡ rest → ends_word s.nested rest ≡ false → commands_then size s cs ≡ words_then size s rest
  unfolding first_at
  command_begins cs rest e open_ = commands_are cs ∙ command_of cs (words_at size (inner_at size s.levels) s.nested rest) (rw (e, open_) refl)

  -- the commands end
  pub commands_end : (cs rest : List ℕ) → after_gaps gap.Between cs ≡ rest → ends_word s.nested rest ≡ true → commands_then size s cs ≡ s.next rest
  unfolding first_at
  commands_end cs rest e ends = commands_are cs ∙ then_done (first_at size (inner_at size s.levels) s.nested) commands_shrink s.next cs rest (rw (e, ends) refl)

  -- the words end
  pub words_end : (cs rest : List ℕ) → after_blanks cs ≡ rest → ends_word s.nested rest ≡ true → words_then size s cs ≡ commands_then size s (after_command rest)
  unfolding words_at next_word
  words_end cs rest e ends = then_done (next_word size (inner_at size s.levels) s.nested) words_shrink (λ after. commands_then size s (after_command after)) cs rest (rw (e, ends) refl)

  -- ---- a word begins

  -- Where a turn of the words reads this, the word and what follows it are read so.
  word_turn : (cs : List ℕ) (w : Shape) (rest : List ℕ) → next_word size (inner_at size s.levels) s.nested cs ≡ Ok (Some w, rest) → words_then size s cs ≡ words_then size s rest
  unfolding words_at
  word_turn cs w rest e = then_more (next_word size (inner_at size s.levels) s.nested) words_shrink (λ after. commands_then size s (after_command after)) cs w rest e

  bad_word : (cs : List ℕ) (m : Syntax) → next_word size (inner_at size s.levels) s.nested cs ≡ Err m → words_then size s cs ≡ Err m
  unfolding words_at
  bad_word cs m e = then_bad (next_word size (inner_at size s.levels) s.nested) words_shrink (λ after. commands_then size s (after_command after)) cs m e

  -- a turn that gives the word
  abbrev turn_of : Result (Shape × List ℕ) Syntax → Result (Option Shape × List ℕ) Syntax
  turn_of r = r >>= λ word. Ok (Some word.0, word.1)

  abbrev behind_pieces : List Part × List ℕ → Result (List Part × List ℕ) Syntax
  behind_pieces found = Ok (found.0, tail found.1)

  abbrev at_tail : List ℕ → List Part × List ℕ → Result (List Part × List ℕ) Syntax
  at_tail close found = Ok (found.0, tail close)

  closed_turn : (cs rest : List ℕ) (m : Syntax) (w : Shape) (b : Bool) → ends_word s.nested rest ≡ b → next_word size (inner_at size s.levels) s.nested cs ≡ turn_of (if b then Ok (w, rest) else Err m)
      → words_then size s cs ≡ (if b then words_then size s rest else Err m)
  closed_turn cs rest m w true ends e = word_turn cs w rest e
  closed_turn cs rest m w false ends e = bad_word cs m e

  bare_turn : (expands : Bool) (cs : List ℕ) (r : Result (List Part × List ℕ) Syntax)
      → next_word size (inner_at size s.levels) s.nested cs ≡ turn_of (r >>= λ found. Ok (record { form = form.Bare; expands = expands; pieces = found.0 }, found.1)) → words_then size s cs ≡ (r >>= λ found. words_then size s found.1)
  bare_turn expands cs (Ok p) e = word_turn cs _ p.1 e
  bare_turn expands cs (Err m) e = bad_word cs m e

  quoted_turn : (expands : Bool) (cs : List ℕ) (r : Result (List Part × List ℕ) Syntax)
      → next_word size (inner_at size s.levels) s.nested cs ≡ turn_of ((r >>= behind_pieces) >>= λ found. closed AfterQuote s.nested (record { form = form.Quoted; expands = expands; pieces = found.0 }) found.1)
      → words_then size s cs ≡ (r >>= λ found. behind size AfterQuote s (tail found.1))
  quoted_turn expands cs (Ok p) e = closed_turn cs (tail p.1) AfterQuote _ (ends_word s.nested (tail p.1)) refl e
  quoted_turn expands cs (Err m) e = bad_word cs m e

  braced_turn : (expands : Bool) (cs t : List ℕ) (r : Result (List ℕ) Syntax) → at_brace false 0 t ≡ r
      → next_word size (inner_at size s.levels) s.nested cs
      ≡ turn_of ((r >>= λ close. all_turns (verbatim_at (place size close)) (before t close) >>= at_tail close) >>= λ found. closed AfterBrace s.nested (record { form = form.Braced; expands = expands; pieces = found.0 }) found.1)
      → words_then size s cs ≡ (r >>= λ close. behind size AfterBrace s (tail close))
  braced_turn expands cs t (Err m) f e = bad_word cs m e
  braced_turn expands cs t (Ok close) f e =
      let (x, fine) = inside_fine (place size close) (before t close) in
      let e' = rw fine at e in
      closed_turn cs (tail close) AfterBrace _ (ends_word s.nested (tail close)) refl e'

  form_turn : (expands : Bool) (cs : List ℕ) (c : ℕ) (t : List ℕ) → next_word size (inner_at size s.levels) s.nested cs ≡ turn_of (word_of size (inner_at size s.levels) s.nested expands (if c == 123 then form.Braced else if c == 34 then form.Quoted else form.Bare) (c ∷ t))
      → words_then size s cs ≡ form_then size s (c ∷ t)
  unfolding quoted_at braced_at
  form_turn expands cs c t e = elim (cases_Bool (c == 123)) [
    | inl here ↦ let e' = rw here at e in rw here (braced_turn expands cs t (at_brace false 0 t) refl e')
    | inr other ↦ elim (cases_Bool (c == 34)) [
      | inl here ↦ let e' = rw (other, here) at e in rw (other, here) (quoted_turn expands cs (pieces_at size (inner_at size s.levels) mode.Quoted t) e')
      | inr neither ↦ let e' = rw (other, neither) at e in rw (other, neither) (bare_turn expands cs (pieces_at size (inner_at size s.levels) (mode.Bare s.nested) (c ∷ t)) e')
    ]
  ]

  -- a word begins, with its mark or without
  pub word_begins : (cs : List ℕ) (c : ℕ) (t : List ℕ) → after_blanks cs ≡ c ∷ t → ends_word s.nested (c ∷ t) ≡ false → marked s.nested (c ∷ t) ≡ false → words_then size s cs ≡ form_then size s (c ∷ t)
  unfolding next_word word_at
  word_begins cs c t e open_ unmarked = form_turn false cs c t (rw (e, open_, unmarked) refl)

  pub marked_begins : (cs : List ℕ) (c : ℕ) (t : List ℕ) → after_blanks cs ≡ 123 ∷ 42 ∷ 125 ∷ c ∷ t → ends_word s.nested (123 ∷ 42 ∷ 125 ∷ c ∷ t) ≡ false → marked s.nested (123 ∷ 42 ∷ 125 ∷ c ∷ t) ≡ true
      → words_then size s cs ≡ form_then size s (c ∷ t)
  unfolding next_word word_at
  marked_begins cs c t e open_ mark = form_turn true cs c t (rw (e, open_, mark) refl)

  -- ---- pieces

  -- a character that stands for itself
  plain_after : (m : Mode) (c : ℕ) (cs : List ℕ) → kind_of m (c ∷ cs) ≡ kind.Plain → after_plain m (c ∷ cs) ≡ after_plain m cs
  unfolding after_plain
  plain_after m c cs e = rw e refl

  plain_turn : (m : Mode) (c : ℕ) (cs : List ℕ) → kind_of m (c ∷ cs) ≡ kind.Plain → piece_at size (inner_at size s.levels) m (c ∷ cs) ≡ Ok (Some (text (stretch size (c ∷ cs) (after_plain m cs))), after_plain m cs)
  unfolding piece_at
  plain_turn m c cs e =
      ap (λ k. piece_of size (inner_at size s.levels) m k (c ∷ cs)) e ∙ ap (λ (r : List ℕ). Ok (Some (text (stretch size (c ∷ cs) r)), r)) (plain_after m c cs e)

  plain_rest : (m : Mode) (j : List ℕ → Result (List ℕ) Syntax) (cs : List ℕ) → (pieces_at size (inner_at size s.levels) m (after_plain m cs) >>= λ found. j found.1) ≡ (pieces_at size (inner_at size s.levels) m cs >>= λ found. j found.1)
  unfolding after_plain pieces_at piece_at
  plain_rest m j [] = refl
  plain_rest m j (c ∷ cs) = plain_of (kind_of m (c ∷ cs)) refl
    where
      plain_of : (k : Kind) → kind_of m (c ∷ cs) ≡ k → (pieces_at size (inner_at size s.levels) m (if is_plain k then after_plain m cs else c ∷ cs) >>= λ found. j found.1) ≡ (pieces_at size (inner_at size s.levels) m (c ∷ cs) >>= λ found. j found.1)
      plain_of kind.Plain e = sym (then_more (piece_at size (inner_at size s.levels) m) (pieces_shrink m) j (c ∷ cs) (text (stretch size (c ∷ cs) (after_plain m cs))) (after_plain m cs) (plain_turn m c cs e))
      plain_of kind.Ends e = refl
      plain_of kind.Open e = refl
      plain_of kind.Backslashed e = refl
      plain_of kind.Opening e = refl
      plain_of kind.Variable e = refl

  pub plain_moves : (m : Mode) (j : List ℕ → Result (List ℕ) Syntax) (c : ℕ) (cs : List ℕ) → kind_of m (c ∷ cs) ≡ kind.Plain
      → (pieces_at size (inner_at size s.levels) m (c ∷ cs) >>= λ found. j found.1) ≡ (pieces_at size (inner_at size s.levels) m cs >>= λ found. j found.1)
  unfolding after_plain pieces_at piece_at
  plain_moves m j c cs e =
      then_more (piece_at size (inner_at size s.levels) m) (pieces_shrink m) j (c ∷ cs) (text (stretch size (c ∷ cs) (after_plain m cs))) (after_plain m cs) (plain_turn m c cs e) ∙ plain_rest m j cs

  -- ---- a bracket opens

  bracket_reads : (levels : ℕ) (cs : List ℕ) (below : ℕ) → levels ≡ suc below → (inner_at size levels).bracket cs ≡ (after_commands size (inner_at size (levels - 1)) true cs >>= closing)
  unfolding inner_at
  bracket_reads levels cs below e =
      let k : suc below - 1 ≡ below = omega arith in
      rw (e, k) refl

  closed_bracket : (m : Mode) (j : List ℕ → Result (List ℕ) Syntax) (cs : List ℕ) (r : Result (List ℕ) Syntax) → piece_at size (inner_at size s.levels) m (91 ∷ cs) ≡ (r >>= λ close. Ok (Some (bracket (stretch size (91 ∷ cs) (tail close)) (stretch size cs close)), tail close))
      → (pieces_at size (inner_at size s.levels) m (91 ∷ cs) >>= λ found. j found.1) ≡ (r >>= λ close. pieces_at size (inner_at size s.levels) m (tail close) >>= λ found. j found.1)
  unfolding pieces_at
  closed_bracket m j cs (Ok close) e = then_more (piece_at size (inner_at size s.levels) m) (pieces_shrink m) j (91 ∷ cs) (bracket (stretch size (91 ∷ cs) (tail close)) (stretch size cs close)) (tail close) e
  closed_bracket m j cs (Err x) e = then_bad (piece_at size (inner_at size s.levels) m) (pieces_shrink m) j (91 ∷ cs) x e

  then_assoc : (r : Result (List ℕ) Syntax) (f g : List ℕ → Result (List ℕ) Syntax) → ((r >>= f) >>= g) ≡ (r >>= λ x. f x >>= g)
  then_assoc (Ok x) f g = refl
  then_assoc (Err m) f g = refl

  turn_assoc : (r : Result (List ℕ) Syntax) (f : List ℕ → Result (Part × List ℕ) Syntax) (g : Part × List ℕ → Result (Option Part × List ℕ) Syntax) → ((r >>= f) >>= g) ≡ (r >>= λ x. f x >>= g)
  turn_assoc (Ok x) f g = refl
  turn_assoc (Err m) f g = refl

  bracket_piece : (m : Mode) (cs : List ℕ) → kind_of m (91 ∷ cs) ≡ kind.Opening
      → piece_at size (inner_at size s.levels) m (91 ∷ cs) ≡ ((inner_at size s.levels).bracket cs >>= λ close. Ok (Some (bracket (stretch size (91 ∷ cs) (tail close)) (stretch size cs close)), tail close))
  unfolding piece_at
  bracket_piece m cs k =
      let made : List ℕ → Result (Part × List ℕ) Syntax = λ close. Ok (bracket (stretch size (91 ∷ cs) (tail close)) (stretch size cs close), tail close) in
      let given : Part × List ℕ → Result (Option Part × List ℕ) Syntax = λ found. Ok (Some found.0, found.1) in
      rw k (turn_assoc ((inner_at size s.levels).bracket cs) made given)

  pub bracket_opens : (quoted : Bool) (cs : List ℕ) (below : ℕ) → s.levels ≡ suc below → kind_of (mode_in s.nested quoted) (91 ∷ cs) ≡ kind.Opening → pieces_then size quoted s (91 ∷ cs) ≡ commands_then size (in_bracket size quoted s) cs
  bracket_opens quoted cs below e k =
      let m = mode_in s.nested quoted in
      closed_bracket m (word_ends size quoted s) cs ((inner_at size s.levels).bracket cs) (bracket_piece m cs k)
      ∙ ap (λ (r : Result (List ℕ) Syntax). r >>= λ close. pieces_then size quoted s (tail close)) (bracket_reads s.levels cs below e)
      ∙ then_assoc (after_commands size (inner_at size (s.levels - 1)) true cs) closing (λ close. pieces_then size quoted s (tail close))
