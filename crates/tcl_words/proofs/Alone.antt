-- The text in a bracket, read alone, has the same commands as inside.
use Rattle.std.proofs.Common.{◌≡◌, ℕ, zero, suc, ◌+◌, ◌≤◌, Bool, true, false, ◌&&◌, ◌==◌, List, [], ◌∷◌, ◌++◌, length, drop, Option, None, Result, Ok, Err, refl, sym, ap, subst, ◌∙◌, arith, inl, inr, ◌⊎◌}
use Rattle.std.specs.Prelude.{IfOk}
use Rattle.std.proofs.lemmas.Bool.{cases_Bool, and_parts, true≢false, eqb-true}
use Rattle.std.proofs.lemmas.List.{nil_from_length}
use Rattle.std.proofs.Math.Bool.{and-false}
use Rattle.tcl_chars.specs.Characters.{star, close_bracket, close_brace, open_brace, open_paren}
use Rattle.tcl_chars.specs.Escape.{escape as escape_of}
use Rattle.tcl_chars.specs.Place.{EndsWith, tail, before, place, bytes}
use Rattle.tcl_chars.specs.Reading.{◌>>=◌, all_turns}
use Rattle.tcl_words.specs.declared.blanks.Gap.TheVariants as gap
use Rattle.tcl_words.specs.declared.fault.Syntax.{Syntax}
use Rattle.tcl_words.specs.declared.fault.Syntax.TheVariants.{AfterBrace, AfterQuote}
use Rattle.tcl_words.specs.declared.front.Kind.{Kind}
use Rattle.tcl_words.specs.declared.front.Kind.TheVariants as kind
use Rattle.tcl_words.specs.declared.front.Mode.{Mode}
use Rattle.tcl_words.specs.declared.front.Mode.TheVariants as mode
use Rattle.tcl_words.specs.declared.word.Form.{Form}
use Rattle.tcl_words.specs.declared.word.Form.TheVariants as form
use Rattle.tcl_words.specs.Parts.{Part, Shape, parts_of, var, bracket}
use Rattle.tcl_words.specs.Words.{after_blanks, after_gaps, ends_word, after_name, kind_of, after_plain, at_variable_brace, at_brace, verbatim_at, braced_at, stretch, marked, form_of, closed, after_command, Inner, named, variable_at, bracket_at, piece_of, piece_at, pieces_at, quoted_at, word_of, word_at, next_word, words_at, first_at, commands_at, after_commands, closing, index_of, inner_at}
use Rattle.tcl_words.proofs.Bracketed.{closed_by, behind, length_closed, place_alone, before_alone, stretch_alone, ends_word_alone, Stays, gaps_alone, CutScan, variable_brace_alone, brace_alone, escape_alone}
use Rattle.tcl_words.proofs.BeforeInert.{inert_bracket, kind_before, name_before, blanks_before}
use Rattle.tcl_words.proofs.Longer.{same_cond}
use Rattle.tcl_words.proofs.BracketedTurns.{Cut, cut_of, of_cut, turns_alone}
use Rattle.tcl_chars.proofs.Ends.{always, ends_le, if_bind, if_cond, forward_shrinks}
use Rattle.tcl_words.proofs.Forward.{Inside, plain_past, piece_forward, word_forward, first_forward, words_end, command_end, inner_inside}
use Rattle.tcl_words.proofs.BracketedKinds.{tail_le, tail_lt, Clear, no_bracket, kind_bare, kind_at_bracket, plain_bare, plain_same, was_closed, closed_is_le, shape_rest, word_rest, ends_at_bracket, word_from, bracket_or_clear, no_blanks_at, command_from, command_rest, command_clear, command_alone, scan_of}

-- ---- pieces and words, where the same is known of what nests

bind_rest : {A B : Type 0} (y : List ℕ) (F G : List ℕ → Type 0) (r alone : Result (A × List ℕ) Syntax) (f g : A × List ℕ → Result (B × List ℕ) Syntax) → Cut y F r alone
    → ((p : A × List ℕ) → IfOk (f p) (λ q. length q.1 ≤ length p.1))
    → ((p : A × List ℕ) (q : B × List ℕ) → f p ≡ Ok q → G q.1 → F p.1)
    → ((x : A) (s : List ℕ) → Cut y G (f (x, closed_by s y)) (g (x, s)))
    → Cut y G (r >>= f) (alone >>= g)
bind_rest y F G (Err m) alone f g c le back next = tt
bind_rest {B = B} y F G (Ok p) alone f g c le back next =
    cut_of y G (f p) (alone >>= g) (λ q e big fine.
    let P : Result (B × List ℕ) Syntax → Type 0 = λ r. IfOk r (λ z. length z.1 ≤ length p.1) in
    let less : length q.1 ≤ length p.1 = subst P e (le p) in
    let (s, e1, e2) = c (omega arith) (back p q e fine) in
    let at : f (p.0, closed_by s y) ≡ Ok q = ap (λ (u : List ℕ). f (p.0, u)) (sym e1) ∙ e in
    let (z, e3, e4) = of_cut y G (f (p.0, closed_by s y)) (g (p.0, s)) q (next p.0 s) at big fine in
    (z, e3, ap (λ (r : Result _ Syntax). r >>= g) e2 ∙ e4))

bind_scan : {B : Type 0} (y : List ℕ) (G : List ℕ → Type 0) (r alone : Result (List ℕ) Syntax) (f g : List ℕ → Result (B × List ℕ) Syntax) → CutScan y r alone
    → ((p : List ℕ) → IfOk (f p) (λ q. length q.1 ≤ length (tail p)))
    → ((s : List ℕ) → Cut y G (f (closed_by s y)) (g s))
    → Cut y G (r >>= f) (alone >>= g)
bind_scan y G (Err m) alone f g c le next = tt
bind_scan {B = B} y G (Ok p) alone f g c le next =
    cut_of y G (f p) (alone >>= g) (λ q e big fine.
    let P : Result (B × List ℕ) Syntax → Type 0 = λ r. IfOk r (λ z. length z.1 ≤ length (tail p)) in
    let less : length q.1 ≤ length (tail p) = subst P e (le p) in
    let (s, e1, e2) = c (tail_lt p (length y) (omega arith)) in
    let at : f (closed_by s y) ≡ Ok q = ap f (sym e1) ∙ e in
    let (z, e3, e4) = of_cut y G (f (closed_by s y)) (g s) q (next s) at big fine in
    (z, e3, ap (λ (r : Result _ Syntax). r >>= g) e2 ∙ e4))

abbrev pub Any : List ℕ → Type 0
Any rest = Unit {0}

-- what nests is read alone as where a bracket's end stands behind
pub record Nests (y : List ℕ) (inner alone : Inner) : Type 0 where
  pub bracket : (t : List ℕ) → CutScan y (inner.bracket (closed_by t y)) (alone.bracket t)
  pub index : (t : List ℕ) → Cut y Any (inner.index (closed_by t y)) (alone.index t)

-- `*` in braces ends behind them
star_end : (size : ℕ) (rest : List ℕ) → IfOk (braced_at size (123 ∷ 42 ∷ 125 ∷ rest)) (λ x. x.1 ≡ rest)
unfolding braced_at at_brace
star_end size rest = if_bind (λ x. Unit {0}) (λ x. x.1 ≡ rest) (all_turns (verbatim_at (place size (125 ∷ rest))) (before (42 ∷ 125 ∷ rest) (125 ∷ rest))) _ (always (all_turns (verbatim_at (place size (125 ∷ rest))) (before (42 ∷ 125 ∷ rest) (125 ∷ rest)))) (λ x h. refl)

star_rest : (rest : List ℕ) (p : Shape × List ℕ) (r : Result (List Part × List ℕ) Syntax) → IfOk r (λ x. x.1 ≡ rest)
    → (r >>= λ found. closed AfterBrace true (record { form = form.Braced; expands = false; pieces = found.0 }) found.1) ≡ Ok p → rest ≡ p.1
star_rest rest p (Err m) h e = absurd cc
star_rest rest p (Ok found) h e = sym h ∙ ap (λ (q : Shape × List ℕ). q.1) (was_closed AfterBrace true (record { form = form.Braced; expands = false; pieces = found.0 }) found.1 p e).1

module _ (n : ℕ) (y : List ℕ) (inner alone : Inner) (inside : Inside inner) (inside_alone : Inside alone) (nests : Nests y inner alone) where
  abbrev whole : ℕ
  whole = n + bytes (close_bracket ∷ y)

  span_alone : (a b : List ℕ) → stretch whole (closed_by a y) (closed_by b y) ≡ stretch n a b
  span_alone a b = stretch_alone n a b y

  closed_variable : (G : List ℕ → Type 0) (c d : ℕ) (t s : List ℕ)
      → Cut y G (Ok (var (stretch whole (closed_by (c ∷ d ∷ t) y) (tail (closed_by s y))) (stretch whole (closed_by t y) (closed_by s y)), tail (closed_by s y))) (Ok (var (stretch n (c ∷ d ∷ t) (tail s)) (stretch n t s), tail s))
  closed_variable G c d t [] = λ big fine. absurd (omega (arith, big))
  closed_variable G c d t (e ∷ s) = λ big fine. (s, refl, rw (← span_alone (c ∷ d ∷ t) s, ← span_alone t (e ∷ s)) refl)

  closed_bracket : (G : List ℕ → Type 0) (c : ℕ) (t s : List ℕ)
      → Cut y G (Ok (bracket (stretch whole (closed_by (c ∷ t) y) (tail (closed_by s y))) (stretch whole (closed_by t y) (closed_by s y)), tail (closed_by s y))) (Ok (bracket (stretch n (c ∷ t) (tail s)) (stretch n t s), tail s))
  closed_bracket G c t [] = λ big fine. absurd (omega (arith, big))
  closed_bracket G c t (e ∷ s) = λ big fine. (s, refl, rw (← span_alone (c ∷ t) s, ← span_alone t (e ∷ s)) refl)

  named_alone : (G : List ℕ → Type 0) (cs name rest : List ℕ) → Cut y G (named whole inner (closed_by cs y) (closed_by name y) (closed_by rest y)) (named n alone cs name rest)
  named_alone G cs name [] = λ big fine. ([], refl, rw (← span_alone cs [], ← span_alone name []) refl)
  named_alone G cs name (c ∷ rest) =
      same_cond (Cut y G) (c == open_paren) _ _ _ _
      (bind_rest y Any G (inner.index (closed_by rest y)) (alone.index rest) _ _ (nests.index rest) (λ p. omega arith) (λ p q e g. tt)
      (λ x s. λ big fine. (s, refl, rw (← span_alone cs s, ← span_alone name (c ∷ rest)) refl)))
      (λ big fine. (c ∷ rest, refl, rw (← span_alone cs (c ∷ rest), ← span_alone name (c ∷ rest)) refl))

  variable_at_alone : (G : List ℕ → Type 0) (c : ℕ) (t : List ℕ) → Cut y G (variable_at whole inner (closed_by (c ∷ t) y)) (variable_at n alone (c ∷ t))
  unfolding variable_at
  variable_at_alone G c [] = rw (name_before false [] 93 y inert_bracket) (named_alone G (c ∷ []) [] (after_name false []))
  variable_at_alone G c (d ∷ t) =
      same_cond (Cut y G) (d == open_brace) _ _ _ _
      (bind_scan y G (at_variable_brace (closed_by t y)) (at_variable_brace t) _ _ (variable_brace_alone t y) (λ p. omega arith) (closed_variable G c d t))
      (rw (name_before false (d ∷ t) 93 y inert_bracket) (named_alone G (c ∷ d ∷ t) (d ∷ t) (after_name false (d ∷ t))))

  bracket_at_alone : (G : List ℕ → Type 0) (c : ℕ) (t : List ℕ) → Cut y G (bracket_at whole inner (closed_by (c ∷ t) y)) (bracket_at n alone (c ∷ t))
  bracket_at_alone G c t = bind_scan y G (inner.bracket (closed_by t y)) (alone.bracket t) _ _ (nests.bracket t) (λ p. omega arith) (closed_bracket G c t)

  piece_of_alone : (G : List ℕ → Type 0) (mi ma : Mode) (k : Kind) (c : ℕ) (t : List ℕ) → (G (after_plain mi (closed_by (c ∷ t) y)) → Stays y (after_plain mi (closed_by (c ∷ t) y)) (after_plain ma (c ∷ t)))
      → Cut y G (piece_of whole inner mi k (closed_by (c ∷ t) y)) (piece_of n alone ma k (c ∷ t))
  piece_of_alone G mi ma kind.Ends c t plain = λ big fine. (c ∷ t, refl, refl)
  piece_of_alone G mi ma kind.Open c t plain = tt
  piece_of_alone G mi ma kind.Backslashed c t plain = λ big fine.
      let (e1, e2) = escape_alone c t y big in
      let rest = drop (escape_of (c ∷ t)).1 (c ∷ t) in
      (rest, e2, rw (e1, e2, span_alone (c ∷ t) rest) refl)
  piece_of_alone G mi ma kind.Opening c t plain =
      bind_rest y Any G (bracket_at whole inner (closed_by (c ∷ t) y)) (bracket_at n alone (c ∷ t)) _ _ (bracket_at_alone Any c t) (λ p. omega arith) (λ p q e g. tt) (λ x s. λ big fine. (s, refl, refl))
  piece_of_alone G mi ma kind.Variable c t plain =
      bind_rest y Any G (variable_at whole inner (closed_by (c ∷ t) y)) (variable_at n alone (c ∷ t)) _ _ (variable_at_alone Any c t) (λ p. omega arith) (λ p q e g. tt) (λ x s. λ big fine. (s, refl, refl))
  piece_of_alone G mi ma kind.Plain c t plain = λ big fine.
      let e = plain fine big in
      (after_plain ma (c ∷ t), e, rw (e, span_alone (c ∷ t) (after_plain ma (c ∷ t))) refl)

  at_bracket_piece : (b : Bool) (c : ℕ) (t : List ℕ) → (c == close_bracket) ≡ true → Cut {A = Option Part} y (Clear b y) (Ok (None, closed_by (c ∷ t) y)) (piece_at n alone (mode.Bare b) (c ∷ t))
  unfolding piece_at
  at_bracket_piece true c t here = λ big fine. (c ∷ t, refl, rw (kind_at_bracket c t here) refl)
  at_bracket_piece false c t here = λ big fine. absurd (omega (arith, fine refl here, length_closed t y))

  piece_bare : (b : Bool) (t : List ℕ) → Cut y (Clear b y) (piece_at whole inner (mode.Bare true) (closed_by t y)) (piece_at n alone (mode.Bare b) t)
  unfolding piece_at kind_of
  piece_bare b [] = λ big fine. ([], refl, refl)
  piece_bare b (c ∷ t) = elim (cases_Bool (c == close_bracket)) [
    | inl here ↦ rw (kind_at_bracket c (closed_by t y) here) (at_bracket_piece b c t here)
    | inr other ↦ rw (kind_bare b c t y (λ e. other)) (piece_of_alone (Clear b y) (mode.Bare true) (mode.Bare b) (kind_of (mode.Bare b) (c ∷ t)) c t (plain_bare b (c ∷ t) y))
  ]

  piece_same : (m : Mode) → ((y : List ℕ) → kind_of m (close_bracket ∷ y) ≡ kind.Plain)
      → (t : List ℕ) → Cut y Any (piece_at whole inner m (closed_by t y)) (piece_at n alone m t)
  unfolding piece_at
  piece_same m at [] = rw (at y) (λ big fine. absurd (omega (arith, (plain_past m close_bracket y (at y)).less)))
  piece_same m at (c ∷ t) = rw (kind_before m c t 93 y inert_bracket) (piece_of_alone Any m m (kind_of m (c ∷ t)) c t (λ fine. plain_same m at (c ∷ t) y))

  bare_halts : (b : Bool) (rest : List ℕ) → Clear b y rest ⊎ (piece_at whole inner (mode.Bare true) rest ≡ Ok (None, rest))
  unfolding piece_at
  bare_halts b [] = inl (λ off e. absurd cc)
  bare_halts b (c ∷ rest) = elim (cases_Bool (c == close_bracket)) [
    | inl here ↦ inr (rw (kind_at_bracket c rest here) refl)
    | inr other ↦ inl (λ off here. absurd (true≢false (sym here ∙ other)))
  ]

  bare_alone : (b : Bool) (t : List ℕ) → Cut y (Clear b y) (pieces_at whole inner (mode.Bare true) (closed_by t y)) (pieces_at n alone (mode.Bare b) t)
  unfolding pieces_at
  bare_alone b t = turns_alone y (Clear b y) (piece_at whole inner (mode.Bare true)) (piece_at n alone (mode.Bare b)) (record { same = piece_bare b; halts = bare_halts b })
      (forward_shrinks (piece_at whole inner (mode.Bare true)) (piece_forward whole inner inside (mode.Bare true))) (forward_shrinks (piece_at n alone (mode.Bare b)) (piece_forward n alone inside_alone (mode.Bare b))) t

  pieces_alone : (m : Mode) → ((y : List ℕ) → kind_of m (close_bracket ∷ y) ≡ kind.Plain)
      → (t : List ℕ) → Cut y Any (pieces_at whole inner m (closed_by t y)) (pieces_at n alone m t)
  unfolding pieces_at
  pieces_alone m at t = turns_alone y Any (piece_at whole inner m) (piece_at n alone m) (record { same = piece_same m at; halts = λ rest. inl tt })
      (forward_shrinks (piece_at whole inner m) (piece_forward whole inner inside m)) (forward_shrinks (piece_at n alone m) (piece_forward n alone inside_alone m)) t

  quoted_alone : (t : List ℕ) → Cut y Any (pieces_at whole inner mode.Quoted (closed_by t y)) (pieces_at n alone mode.Quoted t)
  unfolding kind_of
  quoted_alone t = pieces_alone mode.Quoted (λ y. refl) t

  index_alone : (t : List ℕ) → Cut y Any (pieces_at whole inner mode.Index (closed_by t y)) (pieces_at n alone mode.Index t)
  unfolding kind_of
  index_alone t = pieces_alone mode.Index (λ y. refl) t

  ends_alone : (b : Bool) (s : List ℕ) → Clear b y (closed_by s y) → ends_word true (closed_by s y) ≡ ends_word b s
  ends_alone b [] fine = refl
  ends_alone b (c ∷ t) fine = ends_word_alone c t y b (no_bracket b c t y fine)

  closed_alone : (m : Syntax) (b : Bool) (w : Shape) (s : List ℕ) → Cut y (Clear b y) (closed m true w (closed_by s y)) (closed m b w s)
  closed_alone m b w s = cut_of y (Clear b y) (closed m true w (closed_by s y)) (closed m b w s) (λ p e big fine.
      let (yes_, same) = was_closed m true w (closed_by s y) p e in
      let fine_ : Clear b y (closed_by s y) = subst (Clear b y) (ap (λ (q : Shape × List ℕ). q.1) (sym same)) fine in
      (s, ap (λ (q : Shape × List ℕ). q.1) (sym same), rw (← ends_alone b s fine_, yes_) (ap (λ (q : Shape × List ℕ). Ok (q.0, s)) same)))

  -- behind a character that closes
  behind_close : {A : Type 0} (G : List ℕ → Type 0) (x : A) (s : List ℕ) → Cut y G (Ok (x, tail (closed_by s y))) (Ok (x, tail s))
  behind_close G x [] = λ big fine. absurd (omega (arith, big))
  behind_close G x (c ∷ s) = λ big fine. (s, refl, refl)

  after_found : (G : List ℕ → Type 0) (r : Result (List Part × List ℕ) Syntax) (s : List ℕ) → Cut y G (r >>= λ found. Ok (found.0, tail (closed_by s y))) (r >>= λ found. Ok (found.0, tail s))
  after_found G (Err m) s = tt
  after_found G (Ok found) s = behind_close G found.0 s

  braced_alone : (c : ℕ) (t : List ℕ) → Cut y Any (braced_at whole (closed_by (c ∷ t) y)) (braced_at n (c ∷ t))
  unfolding braced_at
  braced_alone c t =
      bind_scan y Any (at_brace false 0 (closed_by t y)) (at_brace false 0 t) _ _ (brace_alone false 0 t y)
      (λ p. if_bind (λ x. Unit {0}) (λ q. length q.1 ≤ length (tail p)) (all_turns (verbatim_at (place whole p)) (before (closed_by t y) p)) _ (always (all_turns (verbatim_at (place whole p)) (before (closed_by t y) p))) (λ x h. omega arith))
      (λ s. rw (place_alone n s y, before_alone t s y) (after_found Any (all_turns (verbatim_at (place n s)) (before t s)) s))

  quoted_at_alone : (c : ℕ) (t : List ℕ) → Cut y Any (quoted_at whole inner (closed_by (c ∷ t) y)) (quoted_at n alone (c ∷ t))
  unfolding quoted_at
  quoted_at_alone c t =
      bind_rest y Any Any (pieces_at whole inner mode.Quoted (closed_by t y)) (pieces_at n alone mode.Quoted t) _ _ (quoted_alone t) (λ x. tail_le x.1) (λ p q e g. tt) (λ x s. behind_close Any x s)

  -- the text `closed_by cs y` is not empty, and its first character goes
  word_of_alone : (b expands : Bool) (f : Form) (c : ℕ) (t : List ℕ) → Cut y (Clear b y) (word_of whole inner true expands f (closed_by (c ∷ t) y)) (word_of n alone b expands f (c ∷ t))
  word_of_alone b expands form.Braced c t =
      bind_rest y Any (Clear b y) (braced_at whole (closed_by (c ∷ t) y)) (braced_at n (c ∷ t)) _ _ (braced_alone c t) (λ x. closed_is_le AfterBrace true _ x.1) (λ p q e g. tt) (λ x s. closed_alone AfterBrace b _ s)
  word_of_alone b expands form.Quoted c t =
      bind_rest y Any (Clear b y) (quoted_at whole inner (closed_by (c ∷ t) y)) (quoted_at n alone (c ∷ t)) _ _ (quoted_at_alone c t) (λ x. closed_is_le AfterQuote true _ x.1) (λ p q e g. tt) (λ x s. closed_alone AfterQuote b _ s)
  word_of_alone b expands form.Bare c t =
      bind_rest y (Clear b y) (Clear b y) (pieces_at whole inner (mode.Bare true) (closed_by (c ∷ t) y)) (pieces_at n alone (mode.Bare b) (c ∷ t)) _ _ (bare_alone b (c ∷ t))
      (λ x. omega arith)
      (λ p q e g. let same : q.1 ≡ p.1 = ap (λ (r : Result (Shape × List ℕ) Syntax). shape_rest p.1 r) (sym e) in subst (Clear b y) same g)
      (λ x s. λ big fine. (s, refl, refl))

  star_word : (rest : List ℕ) (p : Shape × List ℕ) → word_of whole inner true false (form_of (123 ∷ 42 ∷ 125 ∷ rest)) (123 ∷ 42 ∷ 125 ∷ rest) ≡ Ok p → rest ≡ p.1
  star_word rest p e = star_rest rest p (braced_at whole (123 ∷ 42 ∷ 125 ∷ rest)) (star_end whole rest) e

  marked_late : (b : Bool) (c d e f : ℕ) (r : List ℕ) → (f == close_bracket) ≡ true
      → Cut y (Clear b y) (word_of whole inner true false (form_of (c ∷ d ∷ e ∷ f ∷ r)) (closed_by (c ∷ d ∷ e ∷ f ∷ r) y)) (word_at n alone b (c ∷ d ∷ e ∷ f ∷ r))
  unfolding word_at
  marked_late true c d e f r here =
      rw (ends_at_bracket f r here, and-false) (word_of_alone true false (form_of (c ∷ d ∷ e ∷ f ∷ r)) c (d ∷ e ∷ f ∷ r))
  marked_late false c d e f r here =
      elim (cases_Bool (marked false (c ∷ d ∷ e ∷ f ∷ r))) [
        | inr plain ↦ rw plain (word_of_alone false false (form_of (c ∷ d ∷ e ∷ f ∷ r)) c (d ∷ e ∷ f ∷ r))
        | inl starred ↦ cut_of y (Clear false y) (word_of whole inner true false (form_of (c ∷ d ∷ e ∷ f ∷ r)) (closed_by (c ∷ d ∷ e ∷ f ∷ r) y)) _ (λ p eq big fine.
            let front = and_parts (c == open_brace && d == star && e == close_brace) _ starred in
            let third = and_parts (c == open_brace && d == star) (e == close_brace) front.0 in
            let second = and_parts (c == open_brace) (d == star) third.0 in
            let c_is : c ≡ 123 = eqb-true c 123 second.0 in
            let d_is : d ≡ 42 = eqb-true d 42 second.1 in
            let e_is : e ≡ 125 = eqb-true e 125 third.1 in
            let P : ℕ → ℕ → ℕ → Type 0 = λ x z w. word_of whole inner true false (form_of (x ∷ z ∷ w ∷ f ∷ r)) (closed_by (x ∷ z ∷ w ∷ f ∷ r) y) ≡ Ok p in
            let at : P 123 42 125 = subst (λ w. P 123 42 w) e_is (subst (λ z. P 123 z e) d_is (subst (λ x. P x d e) c_is eq)) in
            let left = star_word (closed_by (f ∷ r) y) p at in
            let fine_ : Clear false y (closed_by (f ∷ r) y) = subst (Clear false y) (sym left) fine in
            absurd (omega (arith, fine_ refl here, length_closed r y)))
      ]

  word_alone : (b : Bool) (c : ℕ) (t : List ℕ) → Cut y (Clear b y) (word_at whole inner true (closed_by (c ∷ t) y)) (word_at n alone b (c ∷ t))
  unfolding word_at
  word_alone b c [] = rw (and-false (c == open_brace)) (word_of_alone b false (form_of (c ∷ [])) c [])
  word_alone b c (d ∷ []) = rw (and-false (c == open_brace && d == star)) (word_of_alone b false (form_of (c ∷ d ∷ [])) c (d ∷ []))
  word_alone b c (d ∷ e ∷ []) = rw (and-false (c == open_brace && d == star && e == close_brace)) (word_of_alone b false (form_of (c ∷ d ∷ e ∷ [])) c (d ∷ e ∷ []))
  word_alone b c (d ∷ e ∷ f ∷ r) = elim (cases_Bool (f == close_bracket)) [
    | inl here ↦ rw (ends_at_bracket f (closed_by r y) here, and-false (c == open_brace && d == star && e == close_brace)) (marked_late b c d e f r here)
    | inr other ↦ rw (ends_word_alone f r y b (λ off. other))
        (same_cond (Cut y (Clear b y)) (marked b (c ∷ d ∷ e ∷ f ∷ r)) _ _ _ _ (word_of_alone b true (form_of (f ∷ r)) f r) (word_of_alone b false (form_of (c ∷ d ∷ e ∷ f ∷ r)) c (d ∷ e ∷ f ∷ r)))
  ]

  no_word : (b : Bool) (c : ℕ) (u : List ℕ) → (c == close_bracket) ≡ true → Cut {A = Option Shape} y (Clear b y) (Ok (None, closed_by (c ∷ u) y)) (word_from n alone b (c ∷ u))
  no_word true c u here = λ big fine. (c ∷ u, refl, rw (ends_at_bracket c u here) refl)
  no_word false c u here = λ big fine. absurd (omega (arith, fine refl here, length_closed u y))

  next_from : (b : Bool) (s : List ℕ) → Cut y (Clear b y) (word_from whole inner true (closed_by s y)) (word_from n alone b s)
  next_from b [] = λ big fine. ([], refl, refl)
  next_from b (c ∷ u) = elim (cases_Bool (c == close_bracket)) [
    | inl here ↦ rw (ends_at_bracket c (closed_by u y) here) (no_word b c u here)
    | inr other ↦ rw (ends_word_alone c u y b (λ off. other))
        (same_cond (Cut y (Clear b y)) (ends_word b (c ∷ u)) _ _ _ _ (λ big fine. (c ∷ u, refl, refl))
        (bind_rest y (Clear b y) (Clear b y) (word_at whole inner true (closed_by (c ∷ u) y)) (word_at n alone b (c ∷ u)) _ _ (word_alone b c u)
        (λ x. omega arith)
        (λ p q e g. let same : q.1 ≡ p.1 = ap (λ (r : Result (Option Shape × List ℕ) Syntax). word_rest p.1 r) (sym e) in subst (Clear b y) same g)
        (λ x s. λ big fine. (s, refl, refl))))
  ]

  next_alone : (b : Bool) (t : List ℕ) → Cut y (Clear b y) (next_word whole inner true (closed_by t y)) (next_word n alone b t)
  unfolding next_word
  next_alone b t = rw (blanks_before t 93 y inert_bracket (no_blanks_at y)) (next_from b (after_blanks t))

  word_halts : (b : Bool) (rest : List ℕ) → Clear b y rest ⊎ (next_word whole inner true rest ≡ Ok (None, rest))
  unfolding next_word
  word_halts b rest = elim (bracket_or_clear b y rest) [
    | inl fine ↦ inl fine
    | inr (r, e) ↦ inr (subst (λ (x : List ℕ). next_word whole inner true x ≡ Ok (None, x)) (sym e) (rw (no_blanks_at r) refl))
  ]

  words_alone : (b : Bool) (t : List ℕ) → Cut y (Clear b y) (words_at whole inner true (closed_by t y)) (words_at n alone b t)
  unfolding words_at
  words_alone b t = turns_alone y (Clear b y) (next_word whole inner true) (next_word n alone b) (record { same = next_alone b; halts = word_halts b })
      (forward_shrinks (next_word whole inner true) (word_forward whole inner inside true)) (forward_shrinks (next_word n alone b) (word_forward n alone inside_alone b)) t

  no_command : (b : Bool) (c : ℕ) (u : List ℕ) → (c == close_bracket) ≡ true → Cut {A = Option (List Shape)} y (Clear b y) (Ok (None, closed_by (c ∷ u) y)) (command_from n alone b (c ∷ u))
  no_command true c u here = λ big fine. (c ∷ u, refl, rw (ends_at_bracket c u here) refl)
  no_command false c u here = λ big fine. absurd (omega (arith, fine refl here, length_closed u y))

  command_from_alone : (b : Bool) (s : List ℕ) → Cut y (Clear b y) (command_from whole inner true (closed_by s y)) (command_from n alone b s)
  command_from_alone b [] = λ big fine. ([], refl, refl)
  command_from_alone b (c ∷ u) = elim (cases_Bool (c == close_bracket)) [
    | inl here ↦ rw (ends_at_bracket c (closed_by u y) here) (no_command b c u here)
    | inr other ↦ rw (ends_word_alone c u y b (λ off. other))
        (same_cond (Cut y (Clear b y)) (ends_word b (c ∷ u)) _ _ _ _ (λ big fine. (c ∷ u, refl, refl))
        (bind_rest y (Clear b y) (Clear b y) (words_at whole inner true (closed_by (c ∷ u) y)) (words_at n alone b (c ∷ u)) _ _ (words_alone b (c ∷ u))
        (λ x. ends_le x.1 _ (command_end whole inner inside x.1))
        (λ p q e g. let same : q.1 ≡ after_command p.1 = ap (λ (r : Result (Option (List Shape) × List ℕ) Syntax). command_rest (after_command p.1) r) (sym e) in command_clear b y p.1 (subst (Clear b y) same g))
        (λ x s. λ big fine. (after_command s, command_alone s y big, refl))))
  ]

  command_from_le : (nested : Bool) (rest : List ℕ) → IfOk (command_from whole inner nested rest) (λ p. length p.1 ≤ length rest)
  command_from_le nested rest = if_cond (λ r. IfOk r (λ p. length p.1 ≤ length rest)) (ends_word nested rest) _ _ (omega arith)
      (if_bind (λ p. EndsWith rest p.1) (λ p. length p.1 ≤ length rest) (words_at whole inner nested rest) _ (words_end whole inner inside nested rest) (λ p h. omega (arith, ends_le rest p.1 h, ends_le p.1 _ (command_end whole inner inside p.1))))

  first_alone : (b : Bool) (t : List ℕ) → Cut y (Clear b y) (first_at whole inner true (closed_by t y)) (first_at n alone b t)
  unfolding first_at
  first_alone b t = cut_of y (Clear b y) (command_from whole inner true (after_gaps gap.Between (closed_by t y))) _ (λ p e big fine.
      let P : Result (Option (List Shape) × List ℕ) Syntax → Type 0 = λ r. IfOk r (λ z. length z.1 ≤ length (after_gaps gap.Between (closed_by t y))) in
      let less : length p.1 ≤ length (after_gaps gap.Between (closed_by t y)) = subst P e (command_from_le true (after_gaps gap.Between (closed_by t y))) in
      let gaps = gaps_alone gap.Between t y (omega arith) in
      let there : command_from whole inner true (closed_by (after_gaps gap.Between t) y) ≡ Ok p = ap (command_from whole inner true) (sym gaps) ∙ e in
      of_cut y (Clear b y) _ (command_from n alone b (after_gaps gap.Between t)) p (command_from_alone b (after_gaps gap.Between t)) there big fine)

  first_halts : (b : Bool) (rest : List ℕ) → Clear b y rest ⊎ (first_at whole inner true rest ≡ Ok (None, rest))
  unfolding first_at after_gaps
  first_halts b rest = elim (bracket_or_clear b y rest) [
    | inl fine ↦ inl fine
    | inr (r, e) ↦ inr (subst (λ (x : List ℕ). first_at whole inner true x ≡ Ok (None, x)) (sym e) refl)
  ]

  commands_alone : (b : Bool) (t : List ℕ) → Cut y (Clear b y) (all_turns (first_at whole inner true) (closed_by t y)) (all_turns (first_at n alone b) t)
  commands_alone b t = turns_alone y (Clear b y) (first_at whole inner true) (first_at n alone b) (record { same = first_alone b; halts = first_halts b })
      (forward_shrinks (first_at whole inner true) (first_forward whole inner inside true)) (forward_shrinks (first_at n alone b) (first_forward n alone inside_alone b)) t

  after_commands_alone : (t : List ℕ) → CutScan y (after_commands whole inner true (closed_by t y)) (after_commands n alone true t)
  unfolding after_commands commands_at
  after_commands_alone t = scan_of y (all_turns (first_at whole inner true) (closed_by t y)) (all_turns (first_at n alone true) t) (commands_alone true t)

-- ---- levels

closed_tail : (y : List ℕ) (c : ℕ) (p s : List ℕ) → behind y ≤ length p → c ∷ p ≡ closed_by s y → (z : List ℕ) × (p ≡ closed_by z y) × (tail s ≡ z)
closed_tail y c p [] big e = absurd (omega (arith, ap length e))
closed_tail y c p (d ∷ s) big e = (s, cc, refl)

closed_rest : (y : List ℕ) (c : ℕ) (p s : List ℕ) (alone : Result (List ℕ) Syntax) → behind y ≤ length p → c ∷ p ≡ closed_by s y → alone ≡ Ok s → (z : List ℕ) × (c ∷ p ≡ closed_by z y) × ((alone >>= closing) ≡ Ok z)
closed_rest y c p [] alone big e h = absurd (omega (arith, ap length e))
closed_rest y c p (d ∷ s) alone big e h = (d ∷ s, e, ap (λ (r : Result (List ℕ) Syntax). r >>= closing) h)

closing_alone : (y : List ℕ) (r alone : Result (List ℕ) Syntax) → CutScan y r alone → CutScan y (r >>= closing) (alone >>= closing)
closing_alone y (Err m) alone h = tt
closing_alone y (Ok []) alone h = tt
closing_alone y (Ok (c ∷ p)) alone h = λ big.
    let (s, e1, e2) = h big in
    closed_rest y c p s alone (omega (arith, big)) e1 e2

index_rest : (y : List ℕ) (r alone : Result (List Part × List ℕ) Syntax) → Cut y Any r alone → Cut y Any (r >>= λ found. Ok (index_of found)) (alone >>= λ found. Ok (index_of found))
index_rest y (Err m) alone h = tt
index_rest y (Ok (ps, [])) alone h = λ big fine. absurd (omega (arith, big))
index_rest y (Ok (ps, c ∷ p)) alone h = λ big fine.
    let (s, e1, e2) = h (omega (arith, big)) tt in
    let (z, e3, e4) = closed_tail y c p s (omega (arith, big)) e1 in
    (z, e3, ap (λ (r : Result (List Part × List ℕ) Syntax). r >>= λ found. Ok (index_of found)) e2 ∙ ap (λ (x : List ℕ). Ok (parts_of ps, x)) e4)

inner_nests : (n : ℕ) (y : List ℕ) (levels more : ℕ) → levels ≤ more → Nests y (inner_at (n + bytes (close_bracket ∷ y)) levels) (inner_at n more)
unfolding inner_at
inner_nests n y zero more le = record { bracket = λ t. tt; index = λ t. tt }
inner_nests n y (suc levels) zero le = absurd (omega arith)
inner_nests n y (suc levels) (suc more) le =
    let big = n + bytes (close_bracket ∷ y) in
    let below = inner_nests n y levels more (omega arith) in
    let inside = inner_inside big levels in
    let inside_alone = inner_inside n more in
    record {
      bracket = λ t. closing_alone y (after_commands big (inner_at big levels) true (closed_by t y)) (after_commands n (inner_at n more) true t) (after_commands_alone n y (inner_at big levels) (inner_at n more) inside inside_alone below t);
      index = λ t. index_rest y (pieces_at big (inner_at big levels) mode.Index (closed_by t y)) (pieces_at n (inner_at n more) mode.Index t) (index_alone n y (inner_at big levels) (inner_at n more) inside inside_alone below t);
    }

-- where as much may nest
pub script_alone : (size levels more : ℕ) (script rest : List ℕ) (commands : List (List Shape)) → levels ≤ more
    → (let whole = size + bytes (close_bracket ∷ rest) in commands_at whole (inner_at whole levels) true (script ++ close_bracket ∷ rest) ≡ Ok (commands, close_bracket ∷ rest))
    → commands_at size (inner_at size more) false script ≡ Ok (commands, [])
unfolding commands_at
script_alone n levels more t y cs le e =
    let big = n + bytes (close_bracket ∷ y) in
    let cut = commands_alone n y (inner_at big levels) (inner_at n more) (inner_inside big levels) (inner_inside n more) (inner_nests n y levels more le) false t in
    let (s, e1, e2) = of_cut y (Clear false y) (all_turns (first_at big (inner_at big levels) true) (closed_by t y)) (all_turns (first_at n (inner_at n more) false) t) (cs, close_bracket ∷ y) cut e (omega arith) (λ off here. omega arith) in
    let none : s ≡ [] = nil_from_length s (omega (arith, ap length e1, length_closed s y)) in
    e2 ∙ ap (λ (x : List ℕ). Ok (cs, x)) none
