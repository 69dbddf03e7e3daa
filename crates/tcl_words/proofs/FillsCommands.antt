-- Open commands can be filled up, and so what nests can at each level.
use Rattle.std.proofs.Common.{◌≡◌, ℕ, zero, suc, ◌<◌, Bool, true, false, ◌&&◌, ◌||◌, ◌==◌, List, [], ◌∷◌, ◌++◌, length, Option, Some, None, Result, Ok, Err, refl, sym, ap, subst, ◌∙◌, arith, inl, inr}
use Rattle.std.specs.Prelude.{if◌then◌else◌}
use Rattle.std.proofs.lemmas.Bool.{cases_Bool, eqb-true, true≢false}
use Rattle.tcl_chars.specs.Characters.{newline, backslash, semicolon, number_sign}
use Rattle.tcl_chars.specs.Classes.{is_word_space}
use Rattle.tcl_chars.specs.Reading.{◌>>=◌, all_turns}
use Rattle.tcl_chars.proofs.Turns.{Shrinks, shorter, one_turn, last_turn, bad_turn}
use Rattle.tcl_words.specs.declared.blanks.Gap.{Gap}
use Rattle.tcl_words.specs.declared.blanks.Gap.TheVariants as gap
use Rattle.tcl_words.specs.declared.fault.Syntax.{Syntax}
use Rattle.tcl_words.specs.Complete.{is_open}
use Rattle.tcl_words.specs.Parts.{Shape}
use Rattle.tcl_words.specs.Words.{after_blanks, after_gaps, ends_word, after_command, Inner, inner_at, word_at, next_word, words_at, first_at}
use Rattle.tcl_words.proofs.BeforeInert.{inert_backslash, blanks_before, gaps_before}
use Rattle.tcl_chars.proofs.Ends.{forward_shrinks}
use Rattle.tcl_words.proofs.Fills.{Leaves, LeavesSome, some_bind, some_ok, turn_then, turn_last}
use Rattle.tcl_words.proofs.FillsPieces.{Filled, over_behind, kept_turn}
use Rattle.tcl_words.proofs.FillsWords.{Stop, stop_before, stop_ends, stop_blanks, backslash_blanks, ends_colon, ends_backslash, WordFills, word_fill, colon_at, backslash_at}
use Rattle.tcl_words.proofs.Forward.{word_forward, inner_inside}
use Rattle.tcl_words.proofs.Longer.{some, firm, blanks_longer, gaps_longer, ends_longer}
use Rattle.tcl_words.proofs.LongerPieces.{firm_some}
use Rattle.tcl_words.proofs.LongerTurns.{LeftSome, Over, over_same}
use Rattle.tcl_words.proofs.LongerWords.{Mere, mere_colon, mere_backslash, mere, mere_open, inner_nested, next_kept}
use Rattle.tcl_words.proofs.ReadIsSpelled.{next_ends, nest_spelled}

-- ---- what a step says of what it read

abbrev pub step_from : {A : Type 0} → Bool → (List ℕ → List ℕ) → List ℕ → Result (A × List ℕ) Syntax → Result (Option A × List ℕ) Syntax
step_from b g rest r = if b then Ok (None, rest) else (r >>= λ x. Ok (Some x.0, g x.1))

abbrev value_or : {A : Type 0} → Option A → Result (Option A × List ℕ) Syntax → Option A
value_or d (Ok p) = p.0
value_or d (Err m) = d

abbrev rest_or : {A : Type 0} → List ℕ → Result (Option A × List ℕ) Syntax → List ℕ
rest_or d (Ok p) = p.1
rest_or d (Err m) = d

abbrev given_or : {A : Type 0} → A → Option A → A
given_or d (Some x) = x
given_or d None = d

pub from_err : {A : Type 0} (b : Bool) (g : List ℕ → List ℕ) (rest : List ℕ) (r : Result (A × List ℕ) Syntax) (f : Syntax) → step_from b g rest r ≡ Err f → (b ≡ false) × (r ≡ Err f)
from_err true g rest r f e = absurd cc
from_err false g rest (Ok p) f e = absurd cc
from_err false g rest (Err m) f e = (refl, cc)

pub from_none : {A : Type 0} (b : Bool) (g : List ℕ → List ℕ) (rest after : List ℕ) (r : Result (A × List ℕ) Syntax) → step_from b g rest r ≡ Ok (None, after) → (b ≡ true) × (rest ≡ after)
from_none {A = A} true g rest after r e = (refl, ap (λ (q : Result (Option A × List ℕ) Syntax). rest_or [] q) e)
from_none {A = A} false g rest after (Ok p) e = absurd (let wrong : Some p.0 ≡ None = ap (λ (q : Result (Option A × List ℕ) Syntax). value_or None q) e in cc)
from_none false g rest after (Err m) e = absurd cc

pub from_some : {A : Type 0} (b : Bool) (g : List ℕ → List ℕ) (rest after : List ℕ) (x : A) (r : Result (A × List ℕ) Syntax) → step_from b g rest r ≡ Ok (Some x, after)
    → (b ≡ false) × (s : List ℕ) × (r ≡ Ok (x, s)) × (g s ≡ after)
from_some {A = A} true g rest after x r e = absurd (let wrong : None ≡ Some x = ap (λ (q : Result (Option A × List ℕ) Syntax). value_or None q) e in cc)
from_some {A = A} false g rest after x (Ok p) e =
    let same : p.0 ≡ x = ap (λ (q : Result (Option A × List ℕ) Syntax). given_or p.0 (value_or None q)) e in
    (refl, p.1, ap (λ (z : A). Ok (z, p.1)) same, ap (λ (q : Result (Option A × List ℕ) Syntax). rest_or [] q) e)
from_some false g rest after x (Err m) e = absurd cc

pub command_bind : {A : Type 0} (z : List ℕ) (r : Result (A × List ℕ) Syntax) → Leaves z r → LeavesSome (after_command z) (r >>= λ x. Ok (Some x.0, after_command x.1))
command_bind z (Ok p) h = ap after_command h
command_bind z (Err m) h = absurd h

pub open_some : (nested : Bool) (t : List ℕ) → ends_word nested t ≡ false → some t ≡ true
open_some nested [] e = absurd cc
open_some nested (c ∷ t) e = refl

-- ---- separators and comments

abbrev pub GapsFill : Gap → List ℕ → Type 0
GapsFill g t = (more : List ℕ) × ((z : List ℕ) → after_gaps g (t ++ (more ++ 93 ∷ z)) ≡ 93 ∷ z)

gaps_step : (g k : Gap) (c : ℕ) (t : List ℕ) → ((s : List ℕ) → after_gaps g (c ∷ (t ++ s)) ≡ after_gaps k (t ++ s)) → GapsFill k t → GapsFill g (c ∷ t)
gaps_step g k c t same (more, fills) = (more, λ z. same (more ++ 93 ∷ z) ∙ fills z)

comment_fill : (z : List ℕ) → after_gaps gap.Between (35 ∷ 10 ∷ 93 ∷ z) ≡ 93 ∷ z
unfolding after_gaps
comment_fill z = refl

gap_one : (c : ℕ) → after_gaps gap.Between (c ∷ []) ≡ [] → GapsFill gap.Between (c ∷ [])
unfolding after_gaps
gap_one c e = elim (cases_Bool (is_word_space c || c == newline || c == semicolon || (c == backslash && false))) [
  | inl here ↦ ([], λ z. rw here refl)
  | inr other ↦ elim (cases_Bool (c == number_sign)) [
    | inl here ↦ (10 ∷ [], λ z. subst (λ x. after_gaps gap.Between (x ∷ 10 ∷ 93 ∷ z) ≡ 93 ∷ z) (sym (eqb-true c 35 here)) (comment_fill z))
    | inr plain ↦ absurd (let wrong : c ∷ [] ≡ [] = rw (other, plain) at e in cc)
  ]
]

pub gaps_fill : (g : Gap) (t : List ℕ) → after_gaps g t ≡ [] → GapsFill g t
unfolding after_gaps
gaps_fill gap.Between [] e = ([], λ z. refl)
gaps_fill (gap.Comment true) [] e = (10 ∷ 10 ∷ [], λ z. refl)
gaps_fill (gap.Comment false) [] e = (10 ∷ [], λ z. refl)
gaps_fill gap.Between (c ∷ []) e = gap_one c e
gaps_fill gap.Between (c ∷ d ∷ t) e = elim (cases_Bool (is_word_space c || c == newline || c == semicolon || (c == backslash && d == newline))) [
  | inl here ↦ gaps_step gap.Between gap.Between c (d ∷ t) (λ s. rw here refl) (gaps_fill gap.Between (d ∷ t) (rw here at e))
  | inr other ↦ elim (cases_Bool (c == number_sign)) [
    | inl here ↦ gaps_step gap.Between (gap.Comment false) c (d ∷ t) (λ s. rw (other, here) refl) (gaps_fill (gap.Comment false) (d ∷ t) (rw (other, here) at e))
    | inr plain ↦ absurd (let wrong : c ∷ d ∷ t ≡ [] = rw (other, plain) at e in cc)
  ]
]
gaps_fill (gap.Comment true) (c ∷ t) e = gaps_step (gap.Comment true) (gap.Comment false) c t (λ s. refl) (gaps_fill (gap.Comment false) t e)
gaps_fill (gap.Comment false) (c ∷ t) e = elim (cases_Bool (c == newline)) [
  | inl here ↦ gaps_step (gap.Comment false) gap.Between c t (λ s. rw here refl) (gaps_fill gap.Between t (rw here at e))
  | inr other ↦ gaps_step (gap.Comment false) (gap.Comment (c == backslash)) c t (λ s. rw other refl) (gaps_fill (gap.Comment (c == backslash)) t (rw other at e))
]

module _ (n levels : ℕ) (below : Filled n levels) where
  abbrev inner : Inner
  inner = inner_at n levels

  abbrev long : ℕ → Inner
  long big = inner_at big levels

  -- ---- words one after another

  word_shrinks : (nested : Bool) (big : ℕ) → Shrinks (next_word big (long big) nested)
  word_shrinks nested big = forward_shrinks (next_word big (long big) nested) (word_forward big (long big) (inner_inside big levels) nested)

  then_words : (nested : Bool) (big : ℕ) (t rest z : List ℕ) → LeavesSome rest (next_word big (long big) nested t) → Leaves z (words_at big (long big) nested rest) → Leaves z (words_at big (long big) nested t)
  unfolding words_at
  then_words nested big t rest z first more = let (x, e) = some_ok rest (next_word big (long big) nested t) first in turn_then (next_word big (long big) nested) t z x rest (word_shrinks nested big) e more

  no_word : (nested : Bool) (big d : ℕ) (z : List ℕ) → Stop nested d → Leaves (d ∷ z) (words_at big (long big) nested (d ∷ z))
  unfolding words_at next_word
  no_word nested big d z s = turn_last (next_word big (long big) nested) (d ∷ z) (d ∷ z) (rw (stop_blanks nested d z s, stop_ends nested d z s) refl)

  abbrev NextFills : Bool → List ℕ → Type 0
  NextFills nested cs = (more : List ℕ) × ((big d : ℕ) (z : List ℕ) → Stop nested d → LeavesSome (d ∷ z) (next_word big (long big) nested (cs ++ (more ++ d ∷ z))))

  abbrev pub WordsFill : Bool → List ℕ → Type 0
  WordsFill nested cs = (more : List ℕ) × ((big d : ℕ) (z : List ℕ) → Stop nested d → Leaves (d ∷ z) (words_at big (long big) nested (cs ++ (more ++ d ∷ z))))

  some_word_fill : (nested : Bool) (t : List ℕ) → some t ≡ true → Over (word_at n inner nested t) → WordFills n levels below nested t
  some_word_fill nested [] s over = absurd cc
  some_word_fill nested (c ∷ t) s over = word_fill n levels below nested c t over

  next_firm : (nested : Bool) (cs : List ℕ) → firm (after_blanks cs) ≡ true → ends_word nested (after_blanks cs) ≡ false → Over (word_at n inner nested (after_blanks cs)) → NextFills nested cs
  unfolding next_word
  next_firm nested cs h open_ over =
      let rest = after_blanks cs in
      let (more, fills) = some_word_fill nested rest (firm_some rest h) over in (
        more,
        λ big d z s.
            let y = more ++ d ∷ z in
            rw (blanks_longer cs y h, ends_longer nested rest y h ∙ open_) (some_bind (d ∷ z) (word_at big (long big) nested (rest ++ y)) (fills big d z s)),
      )

  next_mere : (nested : Bool) (cs rest : List ℕ) → after_blanks cs ≡ rest → Mere rest → NextFills nested cs
  unfolding next_word
  next_mere nested cs _ e mere_colon = (
    [],
    λ big d z s.
        let blanks : after_blanks (cs ++ d ∷ z) ≡ 58 ∷ d ∷ z = blanks_before cs d z (stop_before nested d s) (stop_blanks nested d z s) ∙ ap (λ (x : List ℕ). x ++ d ∷ z) e in
        rw (blanks, ends_colon nested (d ∷ z)) (some_bind (d ∷ z) (word_at big (long big) nested (58 ∷ d ∷ z)) (colon_at n levels below nested big d z s)),
  )
  next_mere nested cs _ e mere_backslash = (
    92 ∷ [],
    λ big d z s.
        let blanks : after_blanks (cs ++ 92 ∷ d ∷ z) ≡ 92 ∷ 92 ∷ d ∷ z = blanks_before cs 92 (d ∷ z) inert_backslash (backslash_blanks nested d z s) ∙ ap (λ (x : List ℕ). x ++ 92 ∷ d ∷ z) e in
        rw (blanks, ends_backslash nested d z s) (some_bind (d ∷ z) (word_at big (long big) nested (92 ∷ 92 ∷ d ∷ z)) (backslash_at n levels below nested big d z s)),
  )

  next_fill : (nested : Bool) (cs : List ℕ) → ends_word nested (after_blanks cs) ≡ false → Over (word_at n inner nested (after_blanks cs)) → NextFills nested cs
  next_fill nested cs open_ over = elim (cases_Bool (firm (after_blanks cs))) [
    | inl here ↦ next_firm nested cs here open_ over
    | inr other ↦ next_mere nested cs (after_blanks cs) refl (mere (after_blanks cs) other (open_some nested (after_blanks cs) open_))
  ]

  colon_words : (nested : Bool) (big d : ℕ) (z : List ℕ) → Stop nested d → Leaves (d ∷ z) (words_at big (long big) nested (58 ∷ d ∷ z))
  unfolding next_word after_blanks
  colon_words nested big d z s =
      then_words nested big (58 ∷ d ∷ z) (d ∷ z) (d ∷ z) (rw (ends_colon nested (d ∷ z)) (some_bind (d ∷ z) (word_at big (long big) nested (58 ∷ d ∷ z)) (colon_at n levels below nested big d z s))) (no_word nested big d z s)

  backslash_words : (nested : Bool) (big d : ℕ) (z : List ℕ) → Stop nested d → Leaves (d ∷ z) (words_at big (long big) nested (92 ∷ 92 ∷ d ∷ z))
  unfolding next_word after_blanks
  backslash_words nested big d z s =
      then_words nested big (92 ∷ 92 ∷ d ∷ z) (d ∷ z) (d ∷ z) (rw (ends_backslash nested d z s) (some_bind (d ∷ z) (word_at big (long big) nested (92 ∷ 92 ∷ d ∷ z)) (backslash_at n levels below nested big d z s))) (no_word nested big d z s)

  words_over_rest : (nested : Bool) (t : List ℕ) (x : Shape) (rest : List ℕ) → next_word n inner nested t ≡ Ok (Some x, rest) → Over (words_at n inner nested t) → Over (words_at n inner nested rest)
  unfolding words_at
  words_over_rest nested t x rest e h = over_behind (x ∷ []) (all_turns (next_word n inner nested) rest) (over_same _ _ (one_turn (next_word n inner nested) t x rest (word_shrinks nested n) e) h)

  words_over_err : (nested : Bool) (t : List ℕ) (f : Syntax) → next_word n inner nested t ≡ Err f → Over (words_at n inner nested t) → is_open f ≡ true
  unfolding words_at
  words_over_err nested t f e h = over_same _ (Err f) (bad_turn (next_word n inner nested) t f e) h

  words_over_none : (nested : Bool) (t rest : List ℕ) → next_word n inner nested t ≡ Ok (None, rest) → Over (words_at n inner nested t) → rest ≡ []
  unfolding words_at
  words_over_none nested t rest e h = over_same _ (Ok ([], rest)) (last_turn (next_word n inner nested) t rest e) h

  next_err : (nested : Bool) (t : List ℕ) (f : Syntax) → next_word n inner nested t ≡ Err f → (ends_word nested (after_blanks t) ≡ false) × (word_at n inner nested (after_blanks t) ≡ Err f)
  unfolding next_word
  next_err nested t f e = from_err (ends_word nested (after_blanks t)) (λ s. s) (after_blanks t) (word_at n inner nested (after_blanks t)) f e

  next_none : (nested : Bool) (t rest : List ℕ) → next_word n inner nested t ≡ Ok (None, rest) → after_blanks t ≡ rest
  unfolding next_word
  next_none nested t rest e = (from_none (ends_word nested (after_blanks t)) (λ s. s) (after_blanks t) rest (word_at n inner nested (after_blanks t)) e).1

  next_some : (nested : Bool) (t : List ℕ) (x : Shape) (rest : List ℕ) → next_word n inner nested t ≡ Ok (Some x, rest)
      → (ends_word nested (after_blanks t) ≡ false) × (s : List ℕ) × (word_at n inner nested (after_blanks t) ≡ Ok (x, s)) × (s ≡ rest)
  unfolding next_word
  next_some nested t x rest e = from_some (ends_word nested (after_blanks t)) (λ s. s) (after_blanks t) rest x (word_at n inner nested (after_blanks t)) e

  only_blank_fill : (nested : Bool) (t : List ℕ) → after_blanks t ≡ [] → WordsFill nested t
  unfolding words_at next_word
  only_blank_fill nested t e = (
    [],
    λ big d z s.
        let blanks : after_blanks (t ++ d ∷ z) ≡ d ∷ z = blanks_before t d z (stop_before nested d s) (stop_blanks nested d z s) ∙ ap (λ (x : List ℕ). x ++ d ∷ z) e in
        turn_last (next_word big (long big) nested) (t ++ d ∷ z) (d ∷ z) (rw (blanks, stop_ends nested d z s) refl),
  )

  last_word_fill : (nested : Bool) (t : List ℕ) → NextFills nested t → WordsFill nested t
  last_word_fill nested t (more, fills) = (more, λ big d z s. then_words nested big (t ++ (more ++ d ∷ z)) (d ∷ z) (d ∷ z) (fills big d z s) (no_word nested big d z s))

  firm_word_fill : (nested : Bool) (t : List ℕ) (x : Shape) (rest : List ℕ) → next_word n inner nested t ≡ Ok (Some x, rest) → firm rest ≡ true → WordsFill nested rest → WordsFill nested t
  firm_word_fill nested t x rest e h (more, fills) = (
    more,
    λ big d z s.
        let y = more ++ d ∷ z in
        then_words nested big (t ++ y) (rest ++ y) (d ∷ z) (kept_turn LeftSome y t (next_word n inner nested t) _ x rest (next_kept n big levels y (inner_nested n big y levels) nested t) e h) (fills big d z s),
  )

  -- a word ends neither at a colon nor at a lone backslash
  some_ends : (nested : Bool) (t : List ℕ) (x : Shape) (rest : List ℕ) → next_word n inner nested t ≡ Ok (Some x, rest) → firm rest ≡ false → rest ≡ []
  some_ends nested t x [] e h = refl
  some_ends nested t x (c ∷ rest) e h =
      let stop : ends_word nested (c ∷ rest) ≡ true = next_ends n levels (nest_spelled n levels) nested t (c ∷ rest) x e in
      absurd (true≢false (sym stop ∙ mere_open nested (c ∷ rest) (mere (c ∷ rest) h refl)))

  words_turn : (nested : Bool) (t : List ℕ) → Over (words_at n inner nested t) → ((rest : List ℕ) → length rest < length t → Over (words_at n inner nested rest) → WordsFill nested rest)
      → (r : Result (Option Shape × List ℕ) Syntax) → next_word n inner nested t ≡ r → WordsFill nested t
  words_turn nested t over ih (Err f) e =
      let (open_, bad) = next_err nested t f e in
      last_word_fill nested t (next_fill nested t open_ (over_same (Err f) _ (sym bad) (words_over_err nested t f e over)))
  words_turn nested t over ih (Ok (None, rest)) e = only_blank_fill nested t (next_none nested t rest e ∙ words_over_none nested t rest e over)
  words_turn nested t over ih (Ok (Some x, rest)) e = elim (cases_Bool (firm rest)) [
    | inl here ↦ firm_word_fill nested t x rest e here (ih rest (shorter (next_word n inner nested) t x rest (word_shrinks nested n) e) (words_over_rest nested t x rest e over))
    | inr other ↦
        let (open_, s, read, same) = next_some nested t x rest e in
        last_word_fill nested t (next_fill nested t open_ (over_same (Ok (x, s)) _ (sym read) (same ∙ some_ends nested t x rest e other)))
  ]

  words_n : (nested : Bool) (k : ℕ) (t : List ℕ) → length t < k → Over (words_at n inner nested t) → WordsFill nested t
  words_n nested zero t a over = absurd (omega arith)
  words_n nested (suc k) t a over = words_turn nested t over (λ rest less h. words_n nested k rest (omega arith) h) (next_word n inner nested t) refl

  words_fill : (nested : Bool) (t : List ℕ) → Over (words_at n inner nested t) → WordsFill nested t
  words_fill nested t over = words_n nested (suc (length t)) t (omega arith) over

  -- ---- the first command

  abbrev pub FirstFills : Bool → List ℕ → Type 0
  FirstFills nested cs = (more : List ℕ) × ((big d : ℕ) (z : List ℕ) → Stop nested d → LeavesSome (after_command (d ∷ z)) (first_at big (long big) nested (cs ++ (more ++ d ∷ z))))

  first_firm : (nested : Bool) (cs : List ℕ) → firm (after_gaps gap.Between cs) ≡ true → ends_word nested (after_gaps gap.Between cs) ≡ false → Over (words_at n inner nested (after_gaps gap.Between cs)) → FirstFills nested cs
  unfolding first_at
  first_firm nested cs h open_ over =
      let rest = after_gaps gap.Between cs in
      let (more, fills) = words_fill nested rest over in (
        more,
        λ big d z s.
            let y = more ++ d ∷ z in
            rw (gaps_longer gap.Between cs y h, ends_longer nested rest y h ∙ open_) (command_bind (d ∷ z) (words_at big (long big) nested (rest ++ y)) (fills big d z s)),
      )

  first_mere : (nested : Bool) (cs rest : List ℕ) → after_gaps gap.Between cs ≡ rest → Mere rest → FirstFills nested cs
  unfolding first_at
  first_mere nested cs _ e mere_colon = (
    [],
    λ big d z s.
        let gaps : after_gaps gap.Between (cs ++ d ∷ z) ≡ 58 ∷ d ∷ z = gaps_before gap.Between cs d z (stop_before nested d s) (ap some e) ∙ ap (λ (x : List ℕ). x ++ d ∷ z) e in
        rw (gaps, ends_colon nested (d ∷ z)) (command_bind (d ∷ z) (words_at big (long big) nested (58 ∷ d ∷ z)) (colon_words nested big d z s)),
  )
  first_mere nested cs _ e mere_backslash = (
    92 ∷ [],
    λ big d z s.
        let gaps : after_gaps gap.Between (cs ++ 92 ∷ d ∷ z) ≡ 92 ∷ 92 ∷ d ∷ z = gaps_before gap.Between cs 92 (d ∷ z) inert_backslash (ap some e) ∙ ap (λ (x : List ℕ). x ++ 92 ∷ d ∷ z) e in
        rw (gaps, ends_backslash nested d z s) (command_bind (d ∷ z) (words_at big (long big) nested (92 ∷ 92 ∷ d ∷ z)) (backslash_words nested big d z s)),
  )

  pub first_fill : (nested : Bool) (cs : List ℕ) → ends_word nested (after_gaps gap.Between cs) ≡ false → Over (words_at n inner nested (after_gaps gap.Between cs)) → FirstFills nested cs
  first_fill nested cs open_ over = elim (cases_Bool (firm (after_gaps gap.Between cs))) [
    | inl here ↦ first_firm nested cs here open_ over
    | inr other ↦ first_mere nested cs (after_gaps gap.Between cs) refl (mere (after_gaps gap.Between cs) other (open_some nested (after_gaps gap.Between cs) open_))
  ]

  -- a first command that is open can be filled up to what ends it
  pub first_open : (nested : Bool) (cs : List ℕ) (f : Syntax) → first_at n inner nested cs ≡ Err f → is_open f ≡ true → FirstFills nested cs
  unfolding first_at
  first_open nested cs f e o =
      let rest = after_gaps gap.Between cs in
      let (open_, bad) = from_err (ends_word nested rest) after_command rest (words_at n inner nested rest) f e in
      first_fill nested cs open_ (over_same (Err f) _ (sym bad) o)
