-- Open brackets and indices can be filled up, at each level.
use Rattle.std.proofs.Common.{◌≡◌, ℕ, zero, suc, ◌<◌, Bool, true, false, List, [], ◌∷◌, ◌++◌, length, Option, Some, None, Result, Ok, Err, refl, sym, ap, subst, ◌∙◌, arith, inl, inr, append_assoc}
use Rattle.std.proofs.lemmas.Bool.{cases_Bool, true≢false}
use Rattle.tcl_chars.specs.Characters.{close_paren}
use Rattle.tcl_chars.specs.Place.{begins}
use Rattle.tcl_chars.specs.Reading.{◌>>=◌, all_turns}
use Rattle.tcl_chars.proofs.Turns.{Shrinks, shorter, one_turn, last_turn, bad_turn}
use Rattle.tcl_words.specs.declared.blanks.Gap.TheVariants as gap
use Rattle.tcl_words.specs.declared.fault.Syntax.{Syntax}
use Rattle.tcl_words.specs.declared.fault.Syntax.TheVariants.{TooDeep}
use Rattle.tcl_words.specs.declared.front.Mode.TheVariants as mode
use Rattle.tcl_words.specs.Complete.{is_open}
use Rattle.tcl_words.specs.Parts.{Part, Parts, Shape}
use Rattle.tcl_words.specs.Words.{after_gaps, ends_word, after_command, Inner, inner_at, pieces_at, words_at, first_at, commands_at, after_commands, closing, index_of}
use Rattle.tcl_chars.proofs.Ends.{forward_shrinks, if_ok}
use Rattle.tcl_words.proofs.Fills.{Leaves, LeavesSome, Fills, leaves_bind, some_ok, turn_then, turn_last, Unmoved}
use Rattle.tcl_words.proofs.FillsCommands.{from_none, from_some, command_bind, gaps_fill, first_fill, first_open}
use Rattle.tcl_words.proofs.FillsPieces.{ends_index, Filled, over_behind, pieces_fill}
use Rattle.tcl_words.proofs.FillsWords.{at_bracket, kept_leaves, long_pieces}
use Rattle.tcl_words.proofs.Forward.{first_forward, inner_inside}
use Rattle.tcl_words.proofs.Longer.{some, firm, gaps_longer, ends_longer}
use Rattle.tcl_words.proofs.LongerTurns.{Kept, Open, Over, over_same}
use Rattle.tcl_words.proofs.LongerWords.{inner_nested, words_kept, words_over, command_longer}
use Rattle.tcl_words.proofs.ReadIsSpelled.{pieces_end_there, pieces_spelled, nest_spelled}
use Rattle.tcl_words.specs.Spelling.{Pieces}

-- an end put to what fills up
ended : (t more z : List ℕ) (c : ℕ) → t ++ (more ++ c ∷ z) ≡ t ++ ((more ++ c ∷ []) ++ z)
ended t more z c = ap (λ (x : List ℕ). t ++ x) (sym (append_assoc more (c ∷ []) z))

-- the commands of a bracket are over where its end is missing
closing_over : {A : Type 0} (r : Result (List A × List ℕ) Syntax) (f : Syntax) → ((r >>= λ found. Ok found.1) >>= closing) ≡ Err f → is_open f ≡ true → Over r
closing_over (Err m) f e o = let same : m ≡ f = cc in rw same o
closing_over (Ok (xs, [])) f e o = refl
closing_over (Ok (xs, c ∷ rest)) f e o = absurd cc

closing_leaves : {A : Type 0} (r : Result (List A × List ℕ) Syntax) (z : List ℕ) → Leaves (93 ∷ z) r → ((r >>= λ found. Ok found.1) >>= closing) ≡ Ok (93 ∷ z)
closing_leaves (Ok (xs, rest)) z h = rw h refl
closing_leaves (Err m) z h = absurd h

index_over : (r : Result (List Part × List ℕ) Syntax) (f : Syntax) → (r >>= λ found. Ok (index_of found)) ≡ Err f → is_open f ≡ true → Over r
index_over (Err m) f e o = let same : m ≡ f = cc in rw same o
index_over (Ok p) f e o = absurd cc

-- an index that ends has its `)`
index_whole : (w t : List ℕ) (r l : Result (List Part × List ℕ) Syntax) → ((ps : List Part) (rest : List ℕ) → r ≡ Ok (ps, rest) → begins close_paren rest ≡ true) → Kept Open some w t r l
    → Unmoved w (r >>= λ found. Ok (index_of found)) (l >>= λ found. Ok (index_of found))
index_whole w t (Err m) l h k = tt
index_whole w t (Ok (ps, [])) l h k = absurd (let e = h ps [] refl in cc)
index_whole w t (Ok (ps, c ∷ rest)) l h k =
    let (x, e) = k refl in
    let P : Result (List Part × List ℕ) Syntax → Type 0 = λ q. Leaves (rest ++ w) (q >>= λ found. Ok (index_of found)) in
    subst P (sym e) refl

module _ (n levels : ℕ) (below : Filled n levels) where
  abbrev inner : Inner
  inner = inner_at n levels

  abbrev long : ℕ → Inner
  long big = inner_at big levels

  abbrev CommandsFill : List ℕ → Type 0
  CommandsFill t = (more : List ℕ) × ((big : ℕ) (z : List ℕ) → Leaves (93 ∷ z) (commands_at big (long big) true (t ++ (more ++ 93 ∷ z))))

  shrinks : (big : ℕ) → Shrinks (first_at big (long big) true)
  shrinks big = forward_shrinks (first_at big (long big) true) (first_forward big (long big) (inner_inside big levels) true)

  no_command : (big : ℕ) (z : List ℕ) → Leaves (93 ∷ z) (commands_at big (long big) true (93 ∷ z))
  unfolding commands_at first_at after_gaps
  no_command big z = turn_last (first_at big (long big) true) (93 ∷ z) (93 ∷ z) refl

  then_commands : (big : ℕ) (t rest z : List ℕ) → LeavesSome rest (first_at big (long big) true t) → Leaves z (commands_at big (long big) true rest) → Leaves z (commands_at big (long big) true t)
  unfolding commands_at
  then_commands big t rest z first more = let (x, e) = some_ok rest (first_at big (long big) true t) first in turn_then (first_at big (long big) true) t z x rest (shrinks big) e more

  over_rest : (t : List ℕ) (x : List Shape) (rest : List ℕ) → first_at n inner true t ≡ Ok (Some x, rest) → Over (commands_at n inner true t) → Over (commands_at n inner true rest)
  unfolding commands_at
  over_rest t x rest e h = over_behind (x ∷ []) (all_turns (first_at n inner true) rest) (over_same _ _ (one_turn (first_at n inner true) t x rest (shrinks n) e) h)

  over_err : (t : List ℕ) (f : Syntax) → first_at n inner true t ≡ Err f → Over (commands_at n inner true t) → is_open f ≡ true
  unfolding commands_at
  over_err t f e h = over_same _ (Err f) (bad_turn (first_at n inner true) t f e) h

  over_none : (t rest : List ℕ) → first_at n inner true t ≡ Ok (None, rest) → Over (commands_at n inner true t) → rest ≡ []
  unfolding commands_at
  over_none t rest e h = over_same _ (Ok ([], rest)) (last_turn (first_at n inner true) t rest e) h

  pub first_none : (nested : Bool) (t rest : List ℕ) → first_at n inner nested t ≡ Ok (None, rest) → (ends_word nested (after_gaps gap.Between t) ≡ true) × (after_gaps gap.Between t ≡ rest)
  unfolding first_at
  first_none nested t rest e = from_none (ends_word nested (after_gaps gap.Between t)) after_command (after_gaps gap.Between t) rest (words_at n inner nested (after_gaps gap.Between t)) e

  pub first_some : (nested : Bool) (t : List ℕ) (x : List Shape) (rest : List ℕ) → first_at n inner nested t ≡ Ok (Some x, rest)
      → (ends_word nested (after_gaps gap.Between t) ≡ false) × (s : List ℕ) × (words_at n inner nested (after_gaps gap.Between t) ≡ Ok (x, s)) × (after_command s ≡ rest)
  unfolding first_at
  first_some nested t x rest e = from_some (ends_word nested (after_gaps gap.Between t)) after_command (after_gaps gap.Between t) rest x (words_at n inner nested (after_gaps gap.Between t)) e

  gap_fill : (t : List ℕ) → after_gaps gap.Between t ≡ [] → CommandsFill t
  unfolding commands_at first_at
  gap_fill t e = let (more, fills) = gaps_fill gap.Between t e in (more, λ big z. turn_last (first_at big (long big) true) (t ++ (more ++ 93 ∷ z)) (93 ∷ z) (rw (fills z) refl))

  last_fill : (t : List ℕ) (more : List ℕ) → ((big : ℕ) (z : List ℕ) → LeavesSome (93 ∷ z) (first_at big (long big) true (t ++ (more ++ 93 ∷ z)))) → CommandsFill t
  last_fill t more fills = (more, λ big z. then_commands big (t ++ (more ++ 93 ∷ z)) (93 ∷ z) (93 ∷ z) (fills big z) (no_command big z))

  whole_firm : (nested : Bool) (big : ℕ) (t y : List ℕ) (x : List Shape) (s : List ℕ) → firm (after_gaps gap.Between t) ≡ true → ends_word nested (after_gaps gap.Between t) ≡ false → words_at n inner nested (after_gaps gap.Between t) ≡ Ok (x, s) → some s ≡ true
      → LeavesSome (after_command s ++ y) (first_at big (long big) nested (t ++ y))
  unfolding first_at
  whole_firm nested big t y x s h open_ e k =
      let rest = after_gaps gap.Between t in
      let read : Leaves (s ++ y) (words_at big (long big) nested (rest ++ y)) = kept_leaves n levels below Over y rest (words_at n inner nested rest) _ x s (words_kept n big levels y (inner_nested n big y levels) nested rest) e k in
      let left : LeavesSome (after_command (s ++ y)) (words_at big (long big) nested (rest ++ y) >>= λ x. Ok (Some x.0, after_command x.1)) = command_bind (s ++ y) (words_at big (long big) nested (rest ++ y)) read in
      rw (gaps_longer gap.Between t y h, ends_longer nested rest y h ∙ open_, ← command_longer s y k) left

  -- a command that ends before the text does is read so where the text goes on
  pub whole_first : (nested : Bool) (big : ℕ) (t y : List ℕ) (x : List Shape) (a : ℕ) (s : List ℕ) → ends_word nested (after_gaps gap.Between t) ≡ false → words_at n inner nested (after_gaps gap.Between t) ≡ Ok (x, a ∷ s)
      → LeavesSome (after_command (a ∷ s) ++ y) (first_at big (long big) nested (t ++ y))
  whole_first nested big t y x a s open_ e = elim (cases_Bool (firm (after_gaps gap.Between t))) [
    | inl here ↦ whole_firm nested big t y x (a ∷ s) here open_ e refl
    | inr other ↦ absurd (let none : a ∷ s ≡ [] = over_same _ (Ok (x, a ∷ s)) e (words_over n n levels [] (inner_nested n n [] levels) nested (after_gaps gap.Between t) other) in cc)
  ]

  whole_fill : (t : List ℕ) (x : List Shape) (a : ℕ) (s : List ℕ) → ends_word true (after_gaps gap.Between t) ≡ false → words_at n inner true (after_gaps gap.Between t) ≡ Ok (x, a ∷ s) → CommandsFill (after_command (a ∷ s)) → CommandsFill t
  whole_fill t x a s open_ e (more, fills) = (
    more,
    λ big z.
        let y = more ++ 93 ∷ z in
        then_commands big (t ++ y) (after_command (a ∷ s) ++ y) (93 ∷ z) (whole_first true big t y x a s open_ e) (fills big z),
  )

  some_turn : (t : List ℕ) (x : List Shape) (rest s : List ℕ) → ends_word true (after_gaps gap.Between t) ≡ false → words_at n inner true (after_gaps gap.Between t) ≡ Ok (x, s) → after_command s ≡ rest → CommandsFill rest → CommandsFill t
  some_turn t x rest [] open_ e same ih =
      let (more, fills) = first_fill n levels below true t open_ (over_same (Ok (x, [])) _ (sym e) refl) in
      last_fill t more (λ big z. fills big 93 z at_bracket)
  some_turn t x rest (a ∷ s) open_ e same ih = whole_fill t x a s open_ e (subst CommandsFill (sym same) ih)

  turn : (t : List ℕ) → Over (commands_at n inner true t) → ((rest : List ℕ) → length rest < length t → Over (commands_at n inner true rest) → CommandsFill rest)
      → (r : Result (Option (List Shape) × List ℕ) Syntax) → first_at n inner true t ≡ r → CommandsFill t
  turn t over ih (Err f) e = let (more, fills) = first_open n levels below true t f e (over_err t f e over) in last_fill t more (λ big z. fills big 93 z at_bracket)
  turn t over ih (Ok (None, rest)) e = gap_fill t ((first_none true t rest e).1 ∙ over_none t rest e over)
  turn t over ih (Ok (Some x, rest)) e =
      let (open_, s, read, same) = first_some true t x rest e in
      some_turn t x rest s open_ read same (ih rest (shorter (first_at n inner true) t x rest (shrinks n) e) (over_rest t x rest e over))

  commands_n : (k : ℕ) (t : List ℕ) → length t < k → Over (commands_at n inner true t) → CommandsFill t
  commands_n zero t a over = absurd (omega arith)
  commands_n (suc k) t a over = turn t over (λ rest less h. commands_n k rest (omega arith) h) (first_at n inner true t) refl

  pub bracket_fill : (t : List ℕ) (f : Syntax) → (after_commands n inner true t >>= closing) ≡ Err f → is_open f ≡ true → (more : List ℕ) × ((big : ℕ) (z : List ℕ) → (after_commands big (long big) true (t ++ (more ++ z)) >>= closing) ≡ Ok (93 ∷ z))
  unfolding after_commands
  bracket_fill t f e o =
      let (more, fills) = commands_n (suc (length t)) t (omega arith) (closing_over (commands_at n inner true t) f e o) in (
        more ++ 93 ∷ [],
        λ big z.
            subst (λ (x : List ℕ). ((commands_at big (long big) true x >>= λ found. Ok found.1) >>= closing) ≡ Ok (93 ∷ z)) (ended t more z 93) (closing_leaves (commands_at big (long big) true (t ++ (more ++ 93 ∷ z))) z (fills big z)),
      )

  pub index_fill : (t : List ℕ) (f : Syntax) → (pieces_at n inner mode.Index t >>= λ found. Ok (index_of found)) ≡ Err f → is_open f ≡ true
      → (let F : ℕ → List ℕ → Result (Parts × List ℕ) Syntax = λ big w. pieces_at big (long big) mode.Index (t ++ w) >>= λ found. Ok (index_of found) in Fills F)
  index_fill t f e o =
      let (more, fills) = pieces_fill n levels below mode.Index t (index_over (pieces_at n inner mode.Index t) f e o) in (
        more ++ 41 ∷ [],
        λ big z.
            let P : List ℕ → Type 0 = λ x. Leaves z (pieces_at big (long big) mode.Index x >>= λ found. Ok (index_of found)) in
            subst P (ended t more z 41) (leaves_bind (41 ∷ z) z (pieces_at big (long big) mode.Index (t ++ (more ++ 41 ∷ z))) _ (fills big 41 z ends_index) (λ x. refl)),
      )

  pub index_unmoved : (t w : List ℕ) (big : ℕ) → Unmoved w (pieces_at n inner mode.Index t >>= λ found. Ok (index_of found)) (pieces_at big (long big) mode.Index (t ++ w) >>= λ found. Ok (index_of found))
  index_unmoved t w big =
      index_whole w t (pieces_at n inner mode.Index t) (pieces_at big (long big) mode.Index (t ++ w))
      (λ ps rest e. pieces_end_there n levels (begins close_paren) t ps rest (if_ok (λ x. Pieces n levels (begins close_paren) t x.0 x.1) (pieces_at n inner mode.Index t) (ps, rest) (pieces_spelled n levels (nest_spelled n levels) mode.Index t) e))
      (long_pieces n levels below big w t mode.Index)

too_deep : {A : Type 0} (f : Syntax) → (let r : Result A Syntax = Err TooDeep in r ≡ Err f) → is_open f ≡ true → ⊥
too_deep f e o = let same : TooDeep ≡ f = cc in absurd (true≢false (sym o ∙ sym (ap is_open same)))

pub filled : (n levels : ℕ) → Filled n levels
unfolding inner_at
filled n zero = record { bracket = λ t f e o. absurd (too_deep f e o); index = λ t f e o. absurd (too_deep f e o); whole_index = λ t w big. tt }
filled n (suc levels) = let below = filled n levels in record { bracket = bracket_fill n levels below; index = index_fill n levels below; whole_index = index_unmoved n levels below }
