-- A written list is one command, whose words are its elements.
use Rattle.std.proofs.Common.{◌≡◌, ℕ, Bool, true, false, not, ◌&&◌, ◌||◌, ◌==◌, List, [], ◌∷◌, ◌++◌, Option, Some, None, Ok, sym, ap, ◌∙◌, subst, refl, arith, append_assoc}
use Rattle.std.proofs.lemmas.Bool.{cond_both, and_parts, eqb-true, true≢false, or_parts, not-true}
use Rattle.std.proofs.lemmas.Bool.Decides.{nat_tests}
use Rattle.std.proofs.lemmas.List.{append-nil}
use Rattle.std.proofs.Math.Bool.{and-false}
use Rattle.tcl_chars.specs.Characters.{newline, semicolon, space, backslash, number_sign, open_brace, close_brace, close_bracket}
use Rattle.tcl_chars.specs.Classes.{is_word_space, is_list_space}
use Rattle.tcl_chars.specs.Place.{begins}
use Rattle.tcl_chars.specs.Reading.{Reading, with_front}
use Rattle.tcl_chars.proofs.Turns.{last_turn, one_turn}
use Rattle.tcl_words.proofs.ScansSpelled.{solid_blanks}
use Rattle.tcl_list.specs.Braces.{is_balanced}
use Rattle.tcl_laws.specs.OneCommand.{AreWords, ends_command, OneCommand, NextCommand}
use Rattle.tcl_list.specs.Written.{is_special, needs_no_backslash, is_continued, is_comment, element_form, behind_backslash, backslashed, all_escaped, spelled, written_element, appended, written_behind, written}
use Rattle.tcl_laws.proofs.BareWord.{backslash_no_end, bare_word, sign_word, starts}
use Rattle.tcl_laws.proofs.BracedWord.{Word, braced_word}
use Rattle.tcl_words.specs.declared.fault.Syntax.{Syntax}
use Rattle.tcl_words.specs.First.{command, first}
use Rattle.tcl_words.specs.Parts.{Shape}
use Rattle.tcl_words.specs.Words.{after_blanks, after_command, after_gaps, ends_word, first_at, inner_at, next_word, words_at}
use Rattle.tcl_chars.proofs.Ends.{forward_shrinks}
use Rattle.tcl_words.proofs.Forward.{inner_inside, word_forward}

-- ---- blanks

-- what does not end a word
record Solid (c : ℕ) (cs : List ℕ) : Type 0 where
  blank : is_word_space c ≡ false
  line : (c == newline) ≡ false
  semi : (c == semicolon) ≡ false
  hidden : (c == backslash && begins newline cs) ≡ false

solid : (nested : Bool) (c : ℕ) (cs : List ℕ) → ends_word nested (c ∷ cs) ≡ false → Solid c cs
solid nested c cs h =
    let last = or_parts (is_word_space c || c == newline || c == semicolon || (nested && c == close_bracket)) (c == backslash && begins newline cs) h in
    let third = or_parts (is_word_space c || c == newline || c == semicolon) (nested && c == close_bracket) last.0 in
    let second = or_parts (is_word_space c || c == newline) (c == semicolon) third.0 in
    let first = or_parts (is_word_space c) (c == newline) second.0 in
    record { blank = first.0; line = first.1; semi = second.1; hidden = last.1 }

one_space : (nested : Bool) (cs : List ℕ) → ends_word nested cs ≡ false → after_blanks (space ∷ cs) ≡ cs
unfolding after_blanks
one_space nested [] h = absurd (true≢false h)
one_space nested (c ∷ cs) h = solid_blanks nested (c ∷ cs) h

-- where a command ends, a word ends, and no blanks follow
end_char : (nested : Bool) (c : ℕ) (cs : List ℕ) → ends_command nested (c ∷ cs) ≡ true → (is_word_space c ≡ false) × ((c == backslash) ≡ false) × (ends_word nested (c ∷ cs) ≡ true)
end_char true c cs h = (grind (arith, nat_tests), grind (arith, nat_tests), grind (arith, nat_tests))
end_char false c cs h = (grind (arith, nat_tests), grind (arith, nat_tests), grind (arith, nat_tests))

command_end : (nested : Bool) (cs : List ℕ) → ends_command nested cs ≡ true → (after_blanks cs ≡ cs) × (ends_word nested cs ≡ true)
unfolding after_blanks
command_end nested [] h = (refl, refl)
command_end nested (c ∷ []) h = let e = end_char nested c [] h in (rw e.0 refl, e.2)
command_end nested (c ∷ d ∷ cs) h = let e = end_char nested c (d ∷ cs) h in (rw (e.0, e.1) refl, e.2)

brace_no_end : (nested : Bool) (cs : List ℕ) → ends_word nested (open_brace ∷ cs) ≡ false
brace_no_end true cs = refl
brace_no_end false cs = refl

-- ---- a plain element is written as it would be with backslashes

plain_alone : (c : ℕ) → not (is_list_space c || is_special c) ≡ true → behind_backslash c ≡ None
plain_alone c h = grind (arith, nat_tests)

plain_same : (cs : List ℕ) → needs_no_backslash cs ≡ true → all_escaped cs ≡ cs
plain_same [] h = refl
plain_same (c ∷ cs) h =
    let both = and_parts _ _ h in
    ap (λ o. backslashed c o ++ all_escaped cs) (plain_alone c both.0) ∙ ap (λ t. c ∷ t) (plain_same cs both.1)

module _ (size levels : ℕ) (nested : Bool) where
  -- ---- elements

  -- An element is read as a word, which begins where no separator stands; the first begins no comment.
  record Element (at_first : Bool) (cs e rest : List ℕ) : Type 0 where
    read : Word size levels nested cs e rest
    goes_on : ends_word nested cs ≡ false
    no_comment : (at_first && begins number_sign cs) ≡ false

  braces : (at_first : Bool) (e rest : List ℕ) → is_balanced e ≡ true → is_continued e ≡ false → ends_word nested rest ≡ true → Element at_first ((open_brace ∷ (e ++ close_brace ∷ [])) ++ rest) e rest
  braces at_first e rest b n h =
      let P : List ℕ → Type 0 = λ t. Element at_first (open_brace ∷ t) e rest in
      subst P (sym (append_assoc e (close_brace ∷ []) rest)) (record { read = braced_word size levels nested e rest b n h; goes_on = brace_no_end nested (e ++ close_brace ∷ rest); no_comment = and-false at_first })

  letters : (at_first : Bool) (c : ℕ) (cs rest : List ℕ) → (at_first && begins number_sign (all_escaped (c ∷ cs) ++ rest)) ≡ false → ends_word nested rest ≡ true
      → Element at_first (all_escaped (c ∷ cs) ++ rest) (c ∷ cs) rest
  letters at_first c cs rest n h = record { read = bare_word size levels nested c cs rest h; goes_on = (starts size levels nested c cs rest).goes_on; no_comment = n }

  sign : (at_first : Bool) (cs rest : List ℕ) → ends_word nested rest ≡ true → Element at_first (backslash ∷ (all_escaped (number_sign ∷ cs) ++ rest)) (number_sign ∷ cs) rest
  sign at_first cs rest h =
      record { read = sign_word size levels nested cs rest h; goes_on = backslash_no_end nested number_sign (all_escaped cs ++ rest) refl; no_comment = and-false at_first }

  bare : (at_first : Bool) (c : ℕ) (cs rest : List ℕ) → needs_no_backslash (c ∷ cs) ≡ true → is_comment at_first (c ∷ cs) ≡ false → ends_word nested rest ≡ true → Element at_first ((c ∷ cs) ++ rest) (c ∷ cs) rest
  bare at_first c cs rest p n h =
      let same = plain_same (c ∷ cs) p in
      subst (λ t. Element at_first (t ++ rest) (c ∷ cs) rest) same (letters at_first c cs rest (ap (λ t. at_first && begins number_sign (t ++ rest)) same ∙ n) h)

  escaped_begins : (at_first : Bool) (c : ℕ) (cs : List ℕ) (o : Option ℕ) → is_comment at_first (c ∷ cs) ≡ false → (at_first && begins number_sign (backslashed c o ++ cs)) ≡ false
  escaped_begins at_first c cs None n = n
  escaped_begins at_first c cs (Some b) n = and-false at_first

  escaped : (at_first : Bool) (c : ℕ) (cs rest : List ℕ) → is_comment at_first (c ∷ cs) ≡ false → ends_word nested rest ≡ true → Element at_first (all_escaped (c ∷ cs) ++ rest) (c ∷ cs) rest
  escaped at_first c cs rest n h =
      let split = append_assoc (backslashed c (behind_backslash c)) (all_escaped cs) rest in
      letters at_first c cs rest (ap (λ t. at_first && begins number_sign t) split ∙ escaped_begins at_first c (all_escaped cs ++ rest) (behind_backslash c) n) h

  comment : (at_first : Bool) (c : ℕ) (cs rest : List ℕ) → is_comment at_first (c ∷ cs) ≡ true → ends_word nested rest ≡ true → Element at_first (backslash ∷ (all_escaped (c ∷ cs) ++ rest)) (c ∷ cs) rest
  comment at_first c cs rest n h =
      let is : c ≡ number_sign = eqb-true c number_sign (and_parts _ _ n).1 in
      subst (λ x. Element at_first (backslash ∷ (all_escaped (x ∷ cs) ++ rest)) (x ∷ cs) rest) (sym is) (sign at_first cs rest h)

  form_read : (at_first : Bool) (e rest : List ℕ) → ends_word nested rest ≡ true → Element at_first (spelled (element_form at_first e) at_first e ++ rest) e rest
  form_read at_first [] rest h = braces at_first [] rest refl refl h
  form_read at_first (c ∷ cs) rest h =
      cond_both (needs_no_backslash (c ∷ cs) && not (is_comment at_first (c ∷ cs))) _ _ (λ f. Element at_first (spelled f at_first (c ∷ cs) ++ rest) (c ∷ cs) rest)
      (λ b. let both = and_parts _ _ b in bare at_first c cs rest both.0 (not-true (is_comment at_first (c ∷ cs)) both.1) h)
      (λ _. cond_both (is_balanced (c ∷ cs) && not (is_continued (c ∷ cs))) _ _ (λ f. Element at_first (spelled f at_first (c ∷ cs) ++ rest) (c ∷ cs) rest)
      (λ b. let both = and_parts _ _ b in braces at_first (c ∷ cs) rest both.0 (not-true (is_continued (c ∷ cs)) both.1) h)
      (λ _. cond_both (is_comment at_first (c ∷ cs)) _ _ (λ t. Element at_first (t ++ rest) (c ∷ cs) rest) (λ n. comment at_first c cs rest n h) (λ n. escaped at_first c cs rest n h)))

  element_read : (at_first : Bool) (e rest : List ℕ) → ends_word nested rest ≡ true → Element at_first (written_element at_first e ++ rest) e rest
  unfolding written_element
  element_read at_first e rest h = form_read at_first e rest h

  -- ---- lists

  -- the words that a text is read as, up to a rest, and the elements that they are
  record Read (cs : List ℕ) (es : List (List ℕ)) (rest : List ℕ) : Type 0 where
    words : List Shape
    read : words_at size (inner_at size levels) nested cs ≡ Ok (words, rest)
    are : AreWords words es

  abbrev step : Reading Syntax (Option Shape)
  step = next_word size (inner_at size levels) nested

  no_more : (rest : List ℕ) → ends_command nested rest ≡ true → step rest ≡ Ok (None, rest)
  unfolding next_word
  no_more rest h = let e = command_end nested rest h in rw (e.0, e.1) refl

  next_turn : (at_first : Bool) (cs ds e rest : List ℕ) (i : Element at_first cs e rest) → after_blanks ds ≡ cs → step ds ≡ Ok (Some i.read.word, rest)
  unfolding next_word
  next_turn at_first cs ds e rest i b = rw (b, i.goes_on, i.read.read) refl

  read_more : (at_first : Bool) (cs ds e after : List ℕ) (es : List (List ℕ)) (rest : List ℕ) → Element at_first cs e after → after_blanks ds ≡ cs → Read after es rest → Read ds (e ∷ es) rest
  unfolding words_at
  read_more at_first cs ds e after es rest i b r =
      let shrinks = forward_shrinks step (word_forward size (inner_at size levels) (inner_inside size levels) nested) in
      record {
        words = i.read.word ∷ r.words;
        read = one_turn step ds i.read.word after shrinks (next_turn at_first cs ds e after i b) ∙ ap (with_front (i.read.word ∷ [])) r.read;
        are = (i.read.says, r.are);
      }

  behind_end : (es : List (List ℕ)) (rest : List ℕ) → ends_command nested rest ≡ true → ends_word nested (written_behind es ++ rest) ≡ true
  unfolding appended
  behind_end [] rest h = (command_end nested rest h).1
  behind_end (e ∷ es) rest h = refl

  behind_read : (es : List (List ℕ)) (rest : List ℕ) → ends_command nested rest ≡ true → Read (written_behind es ++ rest) es rest
  unfolding appended words_at
  behind_read [] rest h = record { words = []; read = last_turn step rest rest (no_more rest h); are = tt }
  behind_read (e ∷ es) rest h =
      let i = element_read false e (written_behind es ++ rest) (behind_end es rest h) in
      let whole = written_element false e ++ (written_behind es ++ rest) in
      subst (λ t. Read t (e ∷ es) rest) (sym (append_assoc (appended false e) (written_behind es) rest))
      (read_more false whole (space ∷ whole) e (written_behind es ++ rest) es rest i (one_space nested whole i.goes_on) (behind_read es rest h))

  -- ---- the command

  first_read : (cs : List ℕ) (ws : List Shape) (rest : List ℕ) → ends_word nested cs ≡ false → begins number_sign cs ≡ false → words_at size (inner_at size levels) nested cs ≡ Ok (ws, rest)
      → first size levels nested cs ≡ command ws (after_command rest)
  unfolding first first_at after_gaps
  first_read [] ws rest h n r = absurd (true≢false h)
  first_read (c ∷ cs) ws rest h n r = let s = solid nested c cs h in rw (s.blank, s.line, s.semi, s.hidden, n, h, r) refl

pub next_command : NextCommand
unfolding appended
next_command size levels nested e es rest h =
    let after = written_behind es ++ rest in
    let i = element_read size levels nested true e after (behind_end size levels nested es rest h) in
    let whole = written_element true e ++ after in
    let r = read_more size levels nested true whole whole e after es rest i (solid_blanks nested whole i.goes_on) (behind_read size levels nested es rest h) in
    let same : written (e ∷ es) ++ rest ≡ whole = append_assoc (appended true e) (written_behind es) rest in
    (r.words, ap (first size levels nested) same ∙ first_read size levels nested whole r.words rest i.goes_on i.no_comment r.read, r.are)

pub one_command : OneCommand
one_command size levels nested e es =
    let n = next_command size levels nested e es [] refl in
    (n.0, ap (first size levels nested) (sym (append-nil (written (e ∷ es)))) ∙ n.1, n.2)
