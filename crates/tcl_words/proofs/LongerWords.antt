-- Words and commands are read alike where the text goes on, and so a fault that is there stays.
use Rattle.std.proofs.Common.{◌≡◌, ℕ, zero, suc, Bool, true, false, cond, not, ◌||◌, ◌==◌, List, [], ◌∷◌, ◌++◌, Option, Some, None, Result, Ok, Err, refl, sym, ap, subst, ◌∙◌, inl, inr}
use Rattle.std.proofs.lemmas.Bool.{cases_Bool, eqb-true}
use Rattle.tcl_chars.specs.Characters.{newline, quote, star, open_brace, close_brace, close_bracket}
use Rattle.tcl_chars.specs.Place.{begins, before, place}
use Rattle.tcl_chars.specs.Reading.{◌>>=◌, with_front, all_turns}
use Rattle.tcl_chars.proofs.Turns.{Shrinks, one_turn, last_turn, bad_turn}
use Rattle.tcl_words.specs.declared.blanks.Gap.TheVariants as gap
use Rattle.tcl_words.specs.declared.fault.Syntax.{Syntax}
use Rattle.tcl_words.specs.declared.fault.Syntax.TheVariants.{AfterBrace, AfterQuote, MissingBracket}
use Rattle.tcl_words.specs.declared.front.Mode.TheVariants as mode
use Rattle.tcl_words.specs.declared.word.Form.{Form}
use Rattle.tcl_words.specs.declared.word.Form.TheVariants as form
use Rattle.tcl_words.specs.Complete.{is_open}
use Rattle.tcl_words.specs.Fronts.{Hangs}
use Rattle.tcl_words.specs.Spelling.{Pieces}
use Rattle.tcl_words.specs.Parts.{Part, Shape, parts_of}
use Rattle.tcl_words.specs.Words.{after_blanks, after_gaps, ends_word, at_brace, braced_at, form_of, closed, after_command, Inner, pieces_at, quoted_at, word_of, word_at, next_word, words_at, first_at, commands_at, after_commands, closing, index_of, inner_at}
use Rattle.tcl_words.proofs.BracketedKinds.{word_from, command_from}
use Rattle.tcl_chars.proofs.Ends.{ends_self, ends_more, if_ok, forward_shrinks}
use Rattle.tcl_words.proofs.Forward.{Inside, blanks_end, gaps_end, word_forward, first_forward, inner_inside}
use Rattle.tcl_words.proofs.Longer.{same_cond, some, firm, blanks_longer, gaps_longer, ends_longer}
use Rattle.tcl_words.proofs.LongerPieces.{KeptScan, Nested, inside_fine, braced_kept, pieces_kept, pieces_over, quoted_kept, tail_kept, tail_loose}
use Rattle.tcl_words.proofs.LongerTurns.{Open, Over, Left, LeftSome, open_bind, open_left, left_some, over_same, front_over, Same, Kept, KeptTurn, Loose, true_not_false, loose_kept, over_turn, kept_lift, turn_lift, same_on, same_bind, bind_kept, some_turn, Goes, turns_over, turns_kept}
use Rattle.tcl_words.proofs.ReadIsSpelled.{BracedText, braced_spelled, quoted_spelled, pieces_front, nest_spelled}

-- ---- where a word ends

-- the texts of which too little is left, but not nothing
pub data Mere : List ℕ → Type 0 where
  mere_colon : Mere (58 ∷ [])
  mere_backslash : Mere (92 ∷ [])

pub mere : (t : List ℕ) → firm t ≡ false → some t ≡ true → Mere t
mere [] h s = absurd cc
mere (c ∷ d ∷ t) h s = absurd cc
mere (c ∷ []) h s = elim (cases_Bool (c == 58)) [
  | inl here ↦ subst (λ x. Mere (x ∷ [])) (sym (eqb-true c 58 here)) mere_colon
  | inr other ↦ elim (cases_Bool (c == 92)) [
    | inl here ↦ subst (λ x. Mere (x ∷ [])) (sym (eqb-true c 92 here)) mere_backslash
    | inr plain ↦ let e : not (false || false) ≡ false = rw (other, plain) at h in absurd cc
  ]
]

pub mere_open : (nested : Bool) (t : List ℕ) → Mere t → ends_word nested t ≡ false
mere_open true _ mere_colon = refl
mere_open false _ mere_colon = refl
mere_open true _ mere_backslash = refl
mere_open false _ mere_backslash = refl

pub ends_backslash : (nested : Bool) (y : List ℕ) → ends_word nested (92 ∷ y) ≡ begins newline y
ends_backslash true y = refl
ends_backslash false y = refl

closed_mere : (y cs : List ℕ) (m : Syntax) (nested : Bool) (w v : Shape) (rest : List ℕ) → Mere rest → (rest ≡ 92 ∷ [] → Hangs m cs) → Kept Left firm y cs (closed m nested w rest) (closed m nested v (rest ++ y))
closed_mere y cs m nested w v _ mere_colon hangs = rw (mere_open nested (58 ∷ []) mere_colon) (λ k. inl refl)
closed_mere y cs m nested w v _ mere_backslash hangs = rw (mere_open nested (92 ∷ []) mere_backslash, ends_backslash nested y) (elim (cases_Bool (begins newline y)) [
  | inl here ↦ rw here (λ k. inr (refl, hangs refl, λ n. ap (λ (r : List ℕ). 92 ∷ r) n))
  | inr other ↦ rw other (λ k. inl refl)
])

closed_kept : (y cs : List ℕ) (m : Syntax) (nested : Bool) (w v : Shape) (rest : List ℕ) → some rest ≡ true → (rest ≡ 92 ∷ [] → Hangs m cs) → Kept Left firm y cs (closed m nested w rest) (closed m nested v (rest ++ y))
closed_kept y cs m nested w v rest s hangs = elim (cases_Bool (firm rest)) [
  | inl here ↦ rw (ends_longer nested rest y here) (same_cond (Kept {A = Shape} Left firm y cs) (ends_word nested rest) _ _ _ _ (λ k. (v, refl)) (λ k. inl refl))
  | inr other ↦ closed_mere y cs m nested w v rest (mere rest other s) hangs
]

pub closed_loose : (m : Syntax) (nested : Bool) (w : Shape) (rest : List ℕ) → some rest ≡ false → Loose firm (closed m nested w rest)
closed_loose m nested w [] s = refl
closed_loose m nested w (c ∷ rest) s = absurd cc

pub command_longer : (s y : List ℕ) → some s ≡ true → after_command (s ++ y) ≡ after_command s ++ y
command_longer [] y h = absurd cc
command_longer (c ∷ s) y h = same_cond (λ a b. a ≡ b ++ y) (c == close_bracket) _ _ _ _ refl refl

command_some : (s : List ℕ) → firm (after_command s) ≡ true → some s ≡ true
command_some [] h = absurd cc
command_some (c ∷ s) h = refl

over_bind : {A B : Type 0} (r : Result (A × List ℕ) Syntax) (f : A × List ℕ → Result (B × List ℕ) Syntax) → Over r → ((x : A) → Over (f (x, []))) → Over (r >>= f)
over_bind (Err m) f h k = h
over_bind {A = A} {B = B} (Ok p) f h k = let P : List ℕ → Type 0 = λ t. Over (f (p.0, t)) in subst P (sym h) (k p.0)

-- a turn that gives a command
command_turn : {A : Type 0} (y cs : List ℕ) (r long : Result (A × List ℕ) Syntax) → Kept Over some y cs r long
    → KeptTurn Over y cs (r >>= λ x. Ok (Some x.0, after_command x.1)) (long >>= λ x. Ok (Some x.0, after_command x.1))
command_turn y cs (Err m) long h = same_bind Over Over y cs m long _ (λ q over. over_bind q _ over (λ x. refl)) h
command_turn {A = A} y cs (Ok p) long h = λ k.
    let s = command_some p.1 k in
    let (x, e) = h s in
    (x, ap (λ (r : Result (A × List ℕ) Syntax). r >>= λ x. Ok (Some x.0, after_command x.1)) e ∙ ap (λ (t : List ℕ). Ok (Some x, t)) (command_longer p.1 y s))

pub over_loose : {A : Type 0} (r : Result (A × List ℕ) Syntax) → Over r → Loose firm r
over_loose (Ok p) h = ap firm h
over_loose (Err m) h = h

-- behind the commands of a bracket its end follows
closing_open : {A : Type 0} (q : Result (A × List ℕ) Syntax) → Over q → Open ((q >>= λ found. Ok found.1) >>= closing)
closing_open (Ok (x, [])) h = refl
closing_open (Ok (x, c ∷ rest)) h = absurd (let e : c ∷ rest ≡ [] = h in cc)
closing_open (Err m) h = h

closing_kept : {A : Type 0} (y cs : List ℕ) (r long : Result (A × List ℕ) Syntax) → Kept Over some y cs r long → KeptScan y cs ((r >>= λ found. Ok found.1) >>= closing) ((long >>= λ found. Ok found.1) >>= closing)
closing_kept {A = A} y cs (Err m) long h = same_on Over Open y cs cs m long _ (ends_self cs) (λ same. ap (λ (q : Result (A × List ℕ) Syntax). (q >>= λ found. Ok found.1) >>= closing) same) (closing_open long) h
closing_kept y cs (Ok (x, [])) long h = λ k. true_not_false (is_open MissingBracket) refl k
closing_kept {A = A} y cs (Ok (x, c ∷ s)) long h = (refl, ap (λ (r : Result (A × List ℕ) Syntax). (r >>= λ found. Ok found.1) >>= closing) (h refl).1)

pub nothing_loose : (t : List ℕ) → some t ≡ false → firm t ≡ false
nothing_loose [] h = refl
nothing_loose (c ∷ t) h = absurd cc

-- ---- words

module _ (n big levels : ℕ) (y : List ℕ) (nests : Nested y (inner_at n levels) (inner_at big levels)) where
  abbrev inner : Inner
  inner = inner_at n levels

  abbrev long : Inner
  long = inner_at big levels

  braced_hangs : (c : ℕ) (t : List ℕ) (p : List Part × List ℕ) → braced_at n (c ∷ t) ≡ Ok p → p.1 ≡ 92 ∷ [] → Hangs AfterBrace (c ∷ t)
  braced_hangs c t p e same =
      let (inside_, joined, b, i) = if_ok (BracedText n t) (braced_at n (c ∷ t)) p (braced_spelled n (c ∷ t)) e in
      (c ∷ inside_, 125, refl, ap (λ (r : List ℕ). c ∷ r) joined ∙ ap (λ (r : List ℕ). c ∷ inside_ ++ 125 ∷ r) same)

  quoted_hangs : (c : ℕ) (t : List ℕ) (p : List Part × List ℕ) → quoted_at n inner (c ∷ t) ≡ Ok p → p.1 ≡ 92 ∷ [] → Hangs AfterQuote (c ∷ t)
  quoted_hangs c t p e same =
      let k = if_ok (λ x. Pieces n levels (begins quote) t x.0 (34 ∷ x.1)) (quoted_at n inner (c ∷ t)) p (quoted_spelled n levels (nest_spelled n levels) (c ∷ t)) e in
      let f = pieces_front n levels (begins quote) t p.0 (34 ∷ p.1) k in
      (c ∷ f.front, 34, refl, ap (λ (r : List ℕ). c ∷ r) f.joined ∙ ap (λ (r : List ℕ). c ∷ f.front ++ 34 ∷ r) same)

  inside : Inside inner
  inside = inner_inside n levels

  inside_long : Inside long
  inside_long = inner_inside big levels

  bare_kept : (nested expands : Bool) (t : List ℕ) → Kept Left firm y t (word_of n inner nested expands form.Bare t) (word_of big long nested expands form.Bare (t ++ y))
  bare_kept nested expands t =
      bind_kept Open Left some firm y t (pieces_at n inner (mode.Bare nested) t) (pieces_at big long (mode.Bare nested) (t ++ y)) _ _ (open_left _) (pieces_kept n big y inner long inside inside_long nests (mode.Bare nested) t)
      (λ p e h x. λ k. (_, refl)) (λ p e h. nothing_loose p.1 h)

  word_of_kept : (nested expands : Bool) (f : Form) (c : ℕ) (t : List ℕ) → Kept Left firm y (c ∷ t) (word_of n inner nested expands f (c ∷ t)) (word_of big long nested expands f (c ∷ (t ++ y)))
  word_of_kept nested expands form.Braced c t =
      bind_kept Open Left some firm y (c ∷ t) (braced_at n (c ∷ t)) (braced_at big (c ∷ (t ++ y))) _ _ (open_left _) (braced_kept n big y c t)
      (λ p e h x. closed_kept y (c ∷ t) AfterBrace nested _ _ p.1 h (braced_hangs c t p e)) (λ p e h. closed_loose AfterBrace nested _ p.1 h)
  word_of_kept nested expands form.Quoted c t =
      bind_kept Open Left some firm y (c ∷ t) (quoted_at n inner (c ∷ t)) (quoted_at big long (c ∷ (t ++ y))) _ _ (open_left _) (quoted_kept n big y inner long inside inside_long nests c t)
      (λ p e h x. closed_kept y (c ∷ t) AfterQuote nested _ _ p.1 h (quoted_hangs c t p e)) (λ p e h. closed_loose AfterQuote nested _ p.1 h)
  word_of_kept nested expands form.Bare c t = bare_kept nested expands (c ∷ t)

  pub bare_over : (nested expands : Bool) (t : List ℕ) → firm t ≡ false → Over (word_of n inner nested expands form.Bare t)
  bare_over nested expands t h = over_bind (pieces_at n inner (mode.Bare nested) t) _ (pieces_over n big y inner long inside inside_long nests (mode.Bare nested) t h) (λ x. refl)

  pub word_over : (nested : Bool) (t : List ℕ) → Mere t → Over (word_at n inner nested t)
  unfolding word_at
  word_over nested _ mere_colon = bare_over nested false (58 ∷ []) refl
  word_over nested _ mere_backslash = bare_over nested false (92 ∷ []) refl

  -- `{*}` at the end of the text is a braced word
  pub star_over : (nested : Bool) → Loose firm (word_at n inner nested (123 ∷ 42 ∷ 125 ∷ []))
  unfolding word_at braced_at at_brace
  star_over nested = let (x, e) = inside_fine (place n (125 ∷ [])) (before (42 ∷ 125 ∷ []) (125 ∷ [])) in rw e refl

  pub brace_open : (nested : Bool) → Over (word_at n inner nested (123 ∷ []))
  unfolding word_at braced_at at_brace
  brace_open nested = refl

  pub star_open : (nested : Bool) → Over (word_at n inner nested (123 ∷ 42 ∷ []))
  unfolding word_at braced_at at_brace
  star_open nested = refl

  pub marked_mere : (nested : Bool) (t : List ℕ) → Mere t → Loose firm (word_at n inner nested (123 ∷ 42 ∷ 125 ∷ t))
  unfolding word_at
  marked_mere nested _ mere_colon = rw (mere_open nested (58 ∷ []) mere_colon) (over_loose _ (bare_over nested true (58 ∷ []) refl))
  marked_mere nested _ mere_backslash = rw (mere_open nested (92 ∷ []) mere_backslash) (over_loose _ (bare_over nested true (92 ∷ []) refl))

  pub mark_firm : (nested : Bool) (t : List ℕ) → firm t ≡ true → Kept Left firm y (123 ∷ 42 ∷ 125 ∷ t) (word_at n inner nested (123 ∷ 42 ∷ 125 ∷ t)) (word_at big long nested (123 ∷ 42 ∷ 125 ∷ (t ++ y)))
  unfolding word_at
  mark_firm nested [] h = absurd cc
  mark_firm nested (c ∷ t) h =
      rw (ends_longer nested (c ∷ t) y h)
      (same_cond (Kept {A = Shape} Left firm y (123 ∷ 42 ∷ 125 ∷ c ∷ t)) (not (ends_word nested (c ∷ t))) _ _ _ _
      (kept_lift Left firm y (123 ∷ 42 ∷ 125 ∷ c ∷ t) (c ∷ t) _ _ (ends_more 123 _ _ (ends_more 42 _ _ (ends_more 125 _ _ (ends_self (c ∷ t))))) (word_of_kept nested true (form_of (c ∷ t)) c t))
      (word_of_kept nested false form.Braced 123 (42 ∷ 125 ∷ c ∷ t)))

  mark_kept : (nested : Bool) (t : List ℕ) → Kept Left firm y (123 ∷ 42 ∷ 125 ∷ t) (word_at n inner nested (123 ∷ 42 ∷ 125 ∷ t)) (word_at big long nested (123 ∷ 42 ∷ 125 ∷ (t ++ y)))
  mark_kept nested [] = loose_kept Left firm y _ _ _ (star_over nested)
  mark_kept nested (c ∷ t) = elim (cases_Bool (firm (c ∷ t))) [
    | inl here ↦ mark_firm nested (c ∷ t) here
    | inr other ↦ loose_kept Left firm y _ _ _ (marked_mere nested (c ∷ t) (mere (c ∷ t) other refl))
  ]

  brace_star_kept : (nested : Bool) (t : List ℕ) → Kept Left firm y (123 ∷ 42 ∷ t) (word_at n inner nested (123 ∷ 42 ∷ t)) (word_at big long nested (123 ∷ 42 ∷ (t ++ y)))
  unfolding word_at
  brace_star_kept nested [] = loose_kept Left firm y (123 ∷ 42 ∷ []) (word_at n inner nested (123 ∷ 42 ∷ [])) (word_at big long nested (123 ∷ 42 ∷ y)) (over_loose (word_at n inner nested (123 ∷ 42 ∷ [])) (star_open nested))
  brace_star_kept nested (c ∷ t) = elim (cases_Bool (c == close_brace)) [
    | inl here ↦ subst (λ x. Kept Left firm y (123 ∷ 42 ∷ x ∷ t) (word_at n inner nested (123 ∷ 42 ∷ x ∷ t)) (word_at big long nested (123 ∷ 42 ∷ x ∷ (t ++ y)))) (sym (eqb-true c 125 here)) (mark_kept nested t)
    | inr other ↦ rw other (word_of_kept nested false form.Braced 123 (42 ∷ c ∷ t))
  ]

  brace_kept : (nested : Bool) (t : List ℕ) → Kept Left firm y (123 ∷ t) (word_at n inner nested (123 ∷ t)) (word_at big long nested (123 ∷ (t ++ y)))
  unfolding word_at
  brace_kept nested [] = loose_kept Left firm y (123 ∷ []) (word_at n inner nested (123 ∷ [])) (word_at big long nested (123 ∷ y)) (over_loose (word_at n inner nested (123 ∷ [])) (brace_open nested))
  brace_kept nested (c ∷ t) = elim (cases_Bool (c == star)) [
    | inl here ↦ subst (λ x. Kept Left firm y (123 ∷ x ∷ t) (word_at n inner nested (123 ∷ x ∷ t)) (word_at big long nested (123 ∷ x ∷ (t ++ y)))) (sym (eqb-true c 42 here)) (brace_star_kept nested t)
    | inr other ↦ rw other (word_of_kept nested false form.Braced 123 (c ∷ t))
  ]

  word_kept : (nested : Bool) (c : ℕ) (t : List ℕ) → Kept Left firm y (c ∷ t) (word_at n inner nested (c ∷ t)) (word_at big long nested (c ∷ (t ++ y)))
  unfolding word_at
  word_kept nested c t = elim (cases_Bool (c == open_brace)) [
    | inl here ↦ subst (λ x. Kept Left firm y (x ∷ t) (word_at n inner nested (x ∷ t)) (word_at big long nested (x ∷ (t ++ y)))) (sym (eqb-true c 123 here)) (brace_kept nested t)
    | inr other ↦ rw other (word_of_kept nested false (cond (c == quote) form.Quoted form.Bare) c t)
  ]

  from_firm : (nested : Bool) (t : List ℕ) → firm t ≡ true → KeptTurn LeftSome y t (word_from n inner nested t) (word_from big long nested (t ++ y))
  from_firm nested [] h = absurd cc
  from_firm nested (c ∷ t) h =
      rw (ends_longer nested (c ∷ t) y h)
      (same_cond (KeptTurn {A = Shape} LeftSome y (c ∷ t)) (ends_word nested (c ∷ t)) _ _ _ _ (λ k. refl) (some_turn Left LeftSome y (c ∷ t) (word_at n inner nested (c ∷ t)) (word_at big long nested (c ∷ (t ++ y))) left_some (word_kept nested c t)))

  pub from_over : (nested : Bool) (t : List ℕ) → firm t ≡ false → Over (word_from n inner nested t)
  from_over nested [] h = refl
  from_over nested (c ∷ t) h =
      let m = mere (c ∷ t) h refl in
      rw (mere_open nested (c ∷ t) m) (over_bind (word_at n inner nested (c ∷ t)) _ (word_over nested (c ∷ t) m) (λ x. refl))

  pub next_kept : (nested : Bool) (t : List ℕ) → KeptTurn LeftSome y t (next_word n inner nested t) (next_word big long nested (t ++ y))
  unfolding next_word
  next_kept nested t = elim (cases_Bool (firm (after_blanks t))) [
    | inl here ↦ rw (blanks_longer t y here) (turn_lift LeftSome y t (after_blanks t) _ _ (blanks_end t) (from_firm nested (after_blanks t) here))
    | inr other ↦ over_turn LeftSome y t _ _ (from_over nested (after_blanks t) other)
  ]

  pub one_over : (nested : Bool) (t : List ℕ) → Mere t → Over (word_from n inner nested (after_blanks t))
  unfolding after_blanks
  one_over nested _ mere_colon = from_over nested (58 ∷ []) refl
  one_over nested _ mere_backslash = from_over nested (92 ∷ []) refl

  pub next_over : (nested : Bool) (t : List ℕ) → firm t ≡ false → Over (next_word n inner nested t)
  unfolding next_word after_blanks
  next_over nested [] h = refl
  next_over nested (c ∷ []) h = one_over nested (c ∷ []) (mere (c ∷ []) h refl)
  next_over nested (c ∷ d ∷ t) h = absurd cc

  pub words_go : (nested : Bool) → Goes LeftSome y (next_word n inner nested) (next_word big long nested)
  words_go nested = record { kept = next_kept nested; over = next_over nested; forward = word_forward n inner inside nested }

  word_shrinks : (nested : Bool) → Shrinks (next_word big long nested)
  word_shrinks nested = forward_shrinks (next_word big long nested) (word_forward big long inside_long nested)

  -- behind the word a backslash-newline is left, and then nothing
  last_word : (nested : Bool) (u : List ℕ) (q : Result (Option Shape × List ℕ) Syntax) → next_word big long nested u ≡ q → LeftSome q → Over (all_turns (next_word big long nested) u)
  unfolding next_word after_blanks
  last_word nested u (Ok (None, rest)) e h = absurd h
  last_word nested u (Ok (Some x, rest)) e h =
      let there : next_word big long nested u ≡ Ok (Some x, 92 ∷ 10 ∷ []) = e ∙ ap (λ (s : List ℕ). Ok (Some x, s)) h in
      let none : all_turns (next_word big long nested) (92 ∷ 10 ∷ []) ≡ Ok ([], []) = last_turn (next_word big long nested) (92 ∷ 10 ∷ []) [] refl in
      over_same (Ok (x ∷ [], [])) _ (sym (one_turn (next_word big long nested) u x (92 ∷ 10 ∷ []) (word_shrinks nested) there ∙ ap (with_front (x ∷ [])) none)) refl
  last_word nested u (Err m) e h = over_same (Err m) _ (sym (bad_turn (next_word big long nested) u m e)) h

  pub words_kept : (nested : Bool) (t : List ℕ) → Kept Over some y t (words_at n inner nested t) (words_at big long nested (t ++ y))
  unfolding words_at
  words_kept nested t = turns_kept LeftSome y (next_word n inner nested) (next_word big long nested) (words_go nested) (word_shrinks nested) Over (λ u. last_word nested u (next_word big long nested u) refl) front_over t

  pub words_over : (nested : Bool) (t : List ℕ) → firm t ≡ false → Over (words_at n inner nested t)
  unfolding words_at
  words_over nested t h = turns_over LeftSome y (next_word n inner nested) (next_word big long nested) (words_go nested) t h

  -- ---- commands

  command_firm : (nested : Bool) (t : List ℕ) → firm t ≡ true → KeptTurn Over y t (command_from n inner nested t) (command_from big long nested (t ++ y))
  command_firm nested [] h = absurd cc
  command_firm nested (c ∷ t) h =
      rw (ends_longer nested (c ∷ t) y h)
      (same_cond (KeptTurn {A = List Shape} Over y (c ∷ t)) (ends_word nested (c ∷ t)) _ _ _ _ (λ k. refl) (command_turn y (c ∷ t) (words_at n inner nested (c ∷ t)) (words_at big long nested (c ∷ (t ++ y))) (words_kept nested (c ∷ t))))

  pub command_over : (nested : Bool) (t : List ℕ) → firm t ≡ false → Over (command_from n inner nested t)
  command_over nested [] h = refl
  command_over nested (c ∷ t) h =
      rw (mere_open nested (c ∷ t) (mere (c ∷ t) h refl)) (over_bind (words_at n inner nested (c ∷ t)) _ (words_over nested (c ∷ t) h) (λ x. refl))

  pub first_kept : (nested : Bool) (t : List ℕ) → KeptTurn Over y t (first_at n inner nested t) (first_at big long nested (t ++ y))
  unfolding first_at
  first_kept nested t = elim (cases_Bool (firm (after_gaps gap.Between t))) [
    | inl here ↦ rw (gaps_longer gap.Between t y here) (turn_lift Over y t (after_gaps gap.Between t) _ _ (gaps_end gap.Between t) (command_firm nested (after_gaps gap.Between t) here))
    | inr other ↦ over_turn Over y t _ _ (command_over nested (after_gaps gap.Between t) other)
  ]

  gaps_mere : (nested : Bool) (t : List ℕ) → Mere t → Over (command_from n inner nested (after_gaps gap.Between t))
  unfolding after_gaps
  gaps_mere nested _ mere_colon = command_over nested (58 ∷ []) refl
  gaps_mere nested _ mere_backslash = command_over nested (92 ∷ []) refl

  pub first_over : (nested : Bool) (t : List ℕ) → firm t ≡ false → Over (first_at n inner nested t)
  unfolding first_at after_gaps
  first_over nested [] h = refl
  first_over nested (c ∷ t) h = gaps_mere nested (c ∷ t) (mere (c ∷ t) h refl)

  first_shrinks : (nested : Bool) → Shrinks (first_at big long nested)
  first_shrinks nested = forward_shrinks (first_at big long nested) (first_forward big long inside_long nested)

  last_command : (nested : Bool) (u : List ℕ) (q : Result (Option (List Shape) × List ℕ) Syntax) → first_at big long nested u ≡ q → Over q → Over (all_turns (first_at big long nested) u)
  unfolding first_at after_gaps
  last_command nested u (Ok (None, rest)) e h = over_same (Ok ([], rest)) _ (sym (last_turn (first_at big long nested) u rest e)) h
  last_command nested u (Ok (Some x, rest)) e h =
      let there : first_at big long nested u ≡ Ok (Some x, []) = e ∙ ap (λ (s : List ℕ). Ok (Some x, s)) h in
      let none : all_turns (first_at big long nested) [] ≡ Ok ([], []) = last_turn (first_at big long nested) [] [] refl in
      over_same (Ok (x ∷ [], [])) _ (sym (one_turn (first_at big long nested) u x [] (first_shrinks nested) there ∙ ap (with_front (x ∷ [])) none)) refl
  last_command nested u (Err m) e h = over_same (Err m) _ (sym (bad_turn (first_at big long nested) u m e)) h

  pub commands_kept : (nested : Bool) (t : List ℕ) → Kept Over some y t (commands_at n inner nested t) (commands_at big long nested (t ++ y))
  unfolding commands_at
  commands_kept nested t =
      turns_kept Over y (first_at n inner nested) (first_at big long nested) (record { kept = first_kept nested; over = first_over nested; forward = first_forward n inner inside nested })
      (first_shrinks nested) Over (λ u. last_command nested u (first_at big long nested u) refl) front_over t

  pub bracket_kept : (t : List ℕ) → KeptScan y t (after_commands n inner true t >>= closing) (after_commands big long true (t ++ y) >>= closing)
  unfolding after_commands
  bracket_kept t = closing_kept y t (commands_at n inner true t) (commands_at big long true (t ++ y)) (commands_kept true t)

  pub index_kept : (t : List ℕ) → Kept Open some y t (pieces_at n inner mode.Index t >>= λ found. Ok (index_of found)) (pieces_at big long mode.Index (t ++ y) >>= λ found. Ok (index_of found))
  index_kept t =
      bind_kept Open Open some some y t (pieces_at n inner mode.Index t) (pieces_at big long mode.Index (t ++ y)) _ _ (open_bind _) (pieces_kept n big y inner long inside inside_long nests mode.Index t)
      (λ p e h x. tail_kept y t (parts_of p.0) (parts_of x) p.1 h) (λ p e h. tail_loose p.1 h)

-- ---- levels

pub inner_nested : (n big : ℕ) (y : List ℕ) (levels : ℕ) → Nested y (inner_at n levels) (inner_at big levels)
unfolding inner_at
inner_nested n big y zero = record { bracket = λ t h. inl refl; index = λ t h. inl refl }
inner_nested n big y (suc levels) = let below = inner_nested n big y levels in record { bracket = bracket_kept n big levels y below; index = index_kept n big levels y below }

first_same : {A : Type 0} (y cs : List ℕ) (r long : Result (Option A × List ℕ) Syntax) (m : Syntax) → KeptTurn Over y cs r long → r ≡ Err m → Same Over y cs m long
first_same {A = A} y cs r long m h e = let P : Result (Option A × List ℕ) Syntax → Type 0 = λ q. KeptTurn Over y cs q long in subst P e h

pub fault_kept : (n big levels : ℕ) (nested : Bool) (cs y : List ℕ) (m : Syntax) → first_at n (inner_at n levels) nested cs ≡ Err m → Same Over y cs m (first_at big (inner_at big levels) nested (cs ++ y))
fault_kept n big levels nested cs y m e = first_same y cs (first_at n (inner_at n levels) nested cs) _ m (first_kept n big levels y (inner_nested n big y levels) nested cs) e
