-- Open pieces can be filled up, if what nests can.
use Rattle.std.proofs.Common.{◌≡◌, ℕ, zero, suc, ◌<◌, Bool, true, false, cond, ◌==◌, List, [], ◌∷◌, ◌++◌, length, Option, Some, None, Result, Ok, Err, refl, sym, ap, subst, ◌∙◌, arith, inl, inr}
use Rattle.std.specs.Prelude.{IfOk}
use Rattle.std.proofs.lemmas.Bool.{cases_Bool, eqb-true, true≢false}
use Rattle.tcl_chars.specs.Characters.{backslash, open_paren, open_brace, close_brace}
use Rattle.tcl_chars.specs.Place.{tail}
use Rattle.tcl_chars.specs.Reading.{◌>>=◌, with_front, all_turns}
use Rattle.tcl_chars.proofs.Turns.{Shrinks, shorter, one_turn, last_turn, bad_turn}
use Rattle.tcl_words.specs.declared.fault.Syntax.{Syntax}
use Rattle.tcl_words.specs.declared.front.Kind.{Kind}
use Rattle.tcl_words.specs.declared.front.Kind.TheVariants as kind
use Rattle.tcl_words.specs.declared.front.Mode.{Mode}
use Rattle.tcl_words.specs.declared.front.Mode.TheVariants as mode
use Rattle.tcl_words.specs.Complete.{is_open}
use Rattle.tcl_words.specs.Parts.{Part, Parts, var}
use Rattle.tcl_words.specs.Words.{after_name, kind_of, after_plain, at_variable_brace, Inner, inner_at, named, variable_at, bracket_at, piece_of, piece_at, pieces_at, stretch}
use Rattle.tcl_words.proofs.BeforeInert.{Inert, inert_quote, inert_paren, inert_semicolon, inert_backslash, inert_bracket, kind_before, plain_before, name_before, escape_rest_before, double_backslash}
use Rattle.tcl_chars.proofs.Ends.{forward_shrinks, always, if_bind, if_ok}
use Rattle.tcl_words.proofs.Fills.{Leaves, LeavesSome, Fills, FillsSome, leaves_bind, some_bind, some_ok, turn_then, turn_last, bind_err, Unmoved, UnmovedTurn, unmoved_bind, unmoved_some}
use Rattle.tcl_words.proofs.Forward.{piece_forward, inner_inside}
use Rattle.tcl_words.proofs.Levels.{backslashed_begins}
use Rattle.tcl_words.proofs.Longer.{same_cond, some, firm, Scanned, name_longer, variable_brace_longer}
use Rattle.tcl_words.proofs.LongerKinds.{settled, Short, nothing, backslash_alone, dollar_alone, colon_alone, dollar_colon, unsettled, kind_longer, colon_plain, dollar_plain, dollar_colon_plain, backslash_kind, plain_colon}
use Rattle.tcl_words.proofs.LongerPieces.{KeptScan, piece_kept}
use Rattle.tcl_words.proofs.LongerTurns.{KeptTurn, Open, Over, over_same}
use Rattle.tcl_words.proofs.LongerWords.{Mere, mere_colon, mere_backslash, mere, inner_nested}

-- what ends pieces
pub data Ender : Mode → ℕ → Type 0 where
  ends_quoted : Ender mode.Quoted 34
  ends_index : Ender mode.Index 41
  ends_bare : (nested : Bool) → Ender (mode.Bare nested) 59
  ends_bracket : Ender (mode.Bare true) 93

pub ender_inert : (m : Mode) (d : ℕ) → Ender m d → Inert d
ender_inert _ _ ends_quoted = inert_quote
ender_inert _ _ ends_index = inert_paren
ender_inert _ _ (ends_bare nested) = inert_semicolon
ender_inert _ _ ends_bracket = inert_bracket

ender_kind : (m : Mode) (d : ℕ) (y : List ℕ) → Ender m d → kind_of m (d ∷ y) ≡ kind.Ends
unfolding kind_of
ender_kind _ _ y ends_quoted = refl
ender_kind _ _ y ends_index = refl
ender_kind _ _ y (ends_bare nested) = refl
ender_kind _ _ y ends_bracket = refl

ender_stops : (m : Mode) (d : ℕ) (y : List ℕ) → Ender m d → after_plain m (d ∷ y) ≡ d ∷ y
unfolding after_plain
ender_stops m d y e = rw (ender_kind m d y e) refl

backslash_again : (m : Mode) (d : ℕ) (y : List ℕ) → Ender m d → kind_of m (92 ∷ d ∷ y) ≡ kind.Backslashed
unfolding kind_of
backslash_again _ _ y ends_quoted = refl
backslash_again _ _ y ends_index = refl
backslash_again _ _ y (ends_bare true) = refl
backslash_again _ _ y (ends_bare false) = refl
backslash_again _ _ y ends_bracket = refl

backslash_stops : (m : Mode) (d : ℕ) (y : List ℕ) → Ender m d → after_plain m (92 ∷ d ∷ y) ≡ 92 ∷ d ∷ y
unfolding after_plain
backslash_stops m d y e = rw (backslash_again m d y e) refl

two_backslashes : (m : Mode) (y : List ℕ) → kind_of m (92 ∷ 92 ∷ y) ≡ kind.Backslashed
unfolding kind_of
two_backslashes (mode.Bare true) y = refl
two_backslashes (mode.Bare false) y = refl
two_backslashes mode.Quoted y = refl
two_backslashes mode.Index y = refl

-- ---- kinds

which : (x y z v : Bool) → cond x kind.Ends (cond y kind.Backslashed (cond z kind.Opening (cond v kind.Variable kind.Plain))) ≡ kind.Open → ⊥
which true y z v e = absurd cc
which false true z v e = absurd cc
which false false true v e = absurd cc
which false false false true e = absurd cc
which false false false false e = absurd cc

never_open : (m : Mode) (c : ℕ) (t : List ℕ) → kind_of m (c ∷ t) ≡ kind.Open → ⊥
unfolding kind_of
never_open (mode.Bare nested) c t e = which _ _ _ _ e
never_open mode.Quoted c t e = which _ _ _ _ e
never_open mode.Index c t e = which _ _ _ _ e

-- a bracket or a variable doesn't hang on what follows the text
abbrev nests : Kind → Bool
nests kind.Opening = true
nests kind.Variable = true
nests kind.Ends = false
nests kind.Open = false
nests kind.Backslashed = false
nests kind.Plain = false

short_kind : (m : Mode) (t : List ℕ) → Short t → nests (kind_of m t) ≡ false
unfolding kind_of
short_kind (mode.Bare nested) _ nothing = refl
short_kind mode.Quoted _ nothing = refl
short_kind mode.Index _ nothing = refl
short_kind m _ backslash_alone = ap nests (backslash_kind m)
short_kind m _ dollar_alone = ap nests (dollar_plain m)
short_kind m _ colon_alone = ap nests (colon_plain m)
short_kind m _ dollar_colon = ap nests (dollar_colon_plain m)

nests_settled : (m : Mode) (c : ℕ) (t : List ℕ) → nests (kind_of m (c ∷ t)) ≡ true → settled c t ≡ true
nests_settled m c t h = elim (cases_Bool (settled c t)) [
  | inl here ↦ here
  | inr other ↦ absurd (true≢false (sym h ∙ short_kind m (c ∷ t) (unsettled c t other)))
]

var_fill : (t z : List ℕ) (f : Syntax) → at_variable_brace t ≡ Err f → at_variable_brace (t ++ 125 ∷ z) ≡ Ok (125 ∷ z)
unfolding at_variable_brace
var_fill [] z f e = refl
var_fill (c ∷ t) z f e = elim (cases_Bool (c == close_brace)) [
  | inl here ↦ absurd (let wrong : Ok (c ∷ t) ≡ Err f = rw here at e in cc)
  | inr other ↦ let left : at_variable_brace t ≡ Err f = rw other at e in rw other (var_fill t z f left)
]

firm_paren : (r : List ℕ) → firm (40 ∷ r) ≡ true
firm_paren [] = refl
firm_paren (c ∷ r) = refl

abbrev ScanBefore : List ℕ → Result (List ℕ) Syntax → Result (List ℕ) Syntax → Type 0
ScanBefore w (Ok rest) long = (some rest ≡ true) × (long ≡ Ok (rest ++ w))
ScanBefore w (Err m) long = Unit {0}

-- where the scan ends what was read of the text is no matter
scan_any : (w t : List ℕ) (r l : Result (List ℕ) Syntax) → KeptScan w t r l → ScanBefore w r l
scan_any w t (Ok rest) l h = h
scan_any w t (Err m) l h = tt

pub scan_brace : (w : List ℕ) (r l : Result (List ℕ) Syntax) → Scanned w r l → ScanBefore w r l
scan_brace w (Ok rest) l h = h
scan_brace w (Err m) l h = tt

pub scan_before : {B : Type 0} (w : List ℕ) (r l : Result (List ℕ) Syntax) (f g : List ℕ → Result (B × List ℕ) Syntax) → ScanBefore w r l → ((d : ℕ) (s : List ℕ) → Unmoved w (f (d ∷ s)) (g (d ∷ (s ++ w)))) → Unmoved w (r >>= f) (l >>= g)
scan_before w (Err m) l f g h k = tt
scan_before w (Ok []) l f g h k = absurd (let e = h.0 in cc)
scan_before {B = B} w (Ok (d ∷ s)) l f g h k =
    let P : Result (List ℕ) Syntax → Type 0 = λ q. Unmoved w (f (d ∷ s)) (q >>= g) in
    subst P (sym h.1) (k d s)

abbrev NoneSome : {A : Type 0} → Option A → List ℕ → Type 0
NoneSome None rest = some rest ≡ true
NoneSome (Some x) rest = Unit {0}

pub kept_turn : {A : Type 0} (R : Result (Option A × List ℕ) Syntax → Type 0) (y cs : List ℕ) (r l : Result (Option A × List ℕ) Syntax) (x : A) (rest : List ℕ) → KeptTurn R y cs r l → r ≡ Ok (Some x, rest) → firm rest ≡ true → LeavesSome (rest ++ y) l
kept_turn {A = A} R y cs r l x rest h e s =
    let P : Result (Option A × List ℕ) Syntax → Type 0 = λ q. KeptTurn R y cs q l in
    let Q : Result (Option A × List ℕ) Syntax → Type 0 = λ q. LeavesSome (rest ++ y) q in
    let kept : P (Ok (Some x, rest)) = subst P e h in
    let (z, same) = kept s in
    subst Q (sym same) refl

pub over_behind : {A : Type 0} (front : List A) (r : Result (List A × List ℕ) Syntax) → Over (with_front front r) → Over r
over_behind front (Ok p) h = h
over_behind front (Err m) h = h

-- a backslash that is all of the text
abbrev pub lone : ℕ → List ℕ → Bool
lone c [] = c == backslash
lone c (d ∷ t) = false

-- what nests can be filled up, and where it is whole nothing behind it is looked at
pub record Filled (n levels : ℕ) : Type 0 where
  pub bracket : (t : List ℕ) (f : Syntax) → (inner_at n levels).bracket t ≡ Err f → is_open f ≡ true → (more : List ℕ) × ((big : ℕ) (z : List ℕ) → (inner_at big levels).bracket (t ++ (more ++ z)) ≡ Ok (93 ∷ z))
  pub index : (t : List ℕ) (f : Syntax) → (inner_at n levels).index t ≡ Err f → is_open f ≡ true → (let F : ℕ → List ℕ → Result (Parts × List ℕ) Syntax = λ big w. (inner_at big levels).index (t ++ w) in Fills F)
  pub whole_index : (t w : List ℕ) (big : ℕ) → Unmoved w ((inner_at n levels).index t) ((inner_at big levels).index (t ++ w))

module _ (n levels : ℕ) (below : Filled n levels) where
  abbrev inner : Inner
  inner = inner_at n levels

  abbrev long : ℕ → Inner
  long big = inner_at big levels

  -- ---- what is open

  bracket_open : (c : ℕ) (t : List ℕ) (f : Syntax) → bracket_at n inner (c ∷ t) ≡ Err f → is_open f ≡ true → (let F : ℕ → List ℕ → Result (Part × List ℕ) Syntax = λ big w. bracket_at big (long big) (c ∷ (t ++ w)) in Fills F)
  bracket_open c t f e o =
      let (more, h) = below.bracket t f (bind_err (inner.bracket t) _ f e) o in
      (more, λ big z. rw (h big z) refl)

  named_open : (cs name rest : List ℕ) (f : Syntax) → named n inner cs name rest ≡ Err f → (r : List ℕ) × (rest ≡ 40 ∷ r) × (inner.index r ≡ Err f)
  named_open cs name [] f e = absurd cc
  named_open cs name (c ∷ r) f e = elim (cases_Bool (c == open_paren)) [
    | inl here ↦ (r, ap (λ (x : ℕ). x ∷ r) (eqb-true c 40 here), bind_err (inner.index r) _ f (rw here at e))
    | inr other ↦ absurd (let wrong : Ok (var (stretch n cs (c ∷ r)) (stretch n name (c ∷ r)), c ∷ r) ≡ Err f = rw other at e in cc)
  ]

  variable_open : (c : ℕ) (t : List ℕ) (f : Syntax) → variable_at n inner (c ∷ t) ≡ Err f → is_open f ≡ true → (let F : ℕ → List ℕ → Result (Part × List ℕ) Syntax = λ big w. variable_at big (long big) (c ∷ (t ++ w)) in Fills F)
  unfolding variable_at after_name
  variable_open c [] f e o = absurd cc
  variable_open c (d ∷ t) f e o = elim (cases_Bool (d == open_brace)) [
    | inl here ↦ (125 ∷ [], λ big z. rw (here, var_fill t z f (bind_err (at_variable_brace t) _ f (rw here at e))) refl)
    | inr other ↦
        let (r, is, open_) = named_open (c ∷ d ∷ t) (d ∷ t) (after_name false (d ∷ t)) f (rw other at e) in
        let (more, h) = below.index r f open_ o in (
          more,
          λ big z.
              let rest : after_name false (d ∷ (t ++ (more ++ z))) ≡ 40 ∷ (r ++ (more ++ z)) = name_longer false (d ∷ t) (more ++ z) (ap firm is ∙ firm_paren r) ∙ ap (λ (x : List ℕ). x ++ (more ++ z)) is in
              rw (other, rest) (leaves_bind z z ((long big).index (r ++ (more ++ z))) _ (h big z) (λ x. refl)),
        )
  ]

  piece_of_open : (m : Mode) (k : Kind) (c : ℕ) (t : List ℕ) (f : Syntax) → kind_of m (c ∷ t) ≡ k → piece_of n inner m k (c ∷ t) ≡ Err f → is_open f ≡ true
      → (nests k ≡ true) × (let F : ℕ → List ℕ → Result (Option Part × List ℕ) Syntax = λ big w. piece_of big (long big) m k (c ∷ (t ++ w)) in FillsSome F)
  piece_of_open m kind.Ends c t f k e o = absurd cc
  piece_of_open m kind.Open c t f k e o = absurd (never_open m c t k)
  piece_of_open m kind.Backslashed c t f k e o = absurd cc
  piece_of_open m kind.Plain c t f k e o = absurd cc
  piece_of_open m kind.Opening c t f k e o =
      let (more, h) = bracket_open c t f (bind_err (bracket_at n inner (c ∷ t)) _ f e) o in
      (refl, (more, λ big z. some_bind z (bracket_at big (long big) (c ∷ (t ++ (more ++ z)))) (h big z)))
  piece_of_open m kind.Variable c t f k e o =
      let (more, h) = variable_open c t f (bind_err (variable_at n inner (c ∷ t)) _ f e) o in
      (refl, (more, λ big z. some_bind z (variable_at big (long big) (c ∷ (t ++ (more ++ z)))) (h big z)))

  pub piece_open : (m : Mode) (c : ℕ) (t : List ℕ) (f : Syntax) → piece_at n inner m (c ∷ t) ≡ Err f → is_open f ≡ true
      → (let F : ℕ → List ℕ → Result (Option Part × List ℕ) Syntax = λ big w. piece_at big (long big) m (c ∷ (t ++ w)) in FillsSome F)
  unfolding piece_at
  piece_open m c t f e o =
      let (inside, filled) = piece_of_open m (kind_of m (c ∷ t)) c t f refl e o in
      (filled.0, λ big z. rw (kind_longer m c t (filled.0 ++ z) (nests_settled m c t inside)) (filled.1 big z))

  -- ---- what is read before a inert character

  bracket_unmoved : (big : ℕ) (w : List ℕ) (c : ℕ) (t : List ℕ) → Unmoved w (bracket_at n inner (c ∷ t)) (bracket_at big (long big) (c ∷ (t ++ w)))
  bracket_unmoved big w c t = scan_before w (inner.bracket t) ((long big).bracket (t ++ w)) _ _ (scan_any w t _ _ ((inner_nested n big w levels).bracket t)) (λ d s. refl)

  named_unmoved : (big : ℕ) (cs name csl namel rest : List ℕ) (d : ℕ) (y : List ℕ) → Inert d → Unmoved (d ∷ y) (named n inner cs name rest) (named big (long big) csl namel (rest ++ d ∷ y))
  named_unmoved big cs name csl namel [] d y h = rw h.no_paren refl
  named_unmoved big cs name csl namel (c ∷ rest) d y h =
      same_cond (Unmoved {A = Part} (d ∷ y)) (c == open_paren) _ _ _ _
      (unmoved_bind (d ∷ y) (inner.index rest) ((long big).index (rest ++ d ∷ y)) _ _ (below.whole_index rest (d ∷ y) big) (λ p x. refl)) refl

  variable_unmoved : (big c : ℕ) (t : List ℕ) (d : ℕ) (y : List ℕ) → Inert d → Unmoved (d ∷ y) (variable_at n inner (c ∷ t)) (variable_at big (long big) (c ∷ (t ++ d ∷ y)))
  unfolding variable_at after_name
  variable_unmoved big c [] d y h = rw (h.no_brace, name_before false [] d y h) (named_unmoved big (c ∷ []) [] (c ∷ d ∷ y) (d ∷ y) [] d y h)
  variable_unmoved big c (e ∷ t) d y h =
      rw (name_before false (e ∷ t) d y h)
      (same_cond (Unmoved {A = Part} (d ∷ y)) (e == open_brace) _ _ _ _
      (scan_before (d ∷ y) (at_variable_brace t) (at_variable_brace (t ++ d ∷ y)) (λ close. Ok (var (stretch n (c ∷ e ∷ t) (tail close)) (stretch n t close), tail close))
      (λ close. Ok (var (stretch big (c ∷ e ∷ (t ++ d ∷ y)) (tail close)) (stretch big (t ++ d ∷ y) close), tail close)) (scan_brace (d ∷ y) _ _ (variable_brace_longer t (d ∷ y))) (λ u s. refl))
      (named_unmoved big (c ∷ e ∷ t) (e ∷ t) _ _ (after_name false (e ∷ t)) d y h))

  piece_of_unmoved : (m : Mode) (k : Kind) (big c : ℕ) (t : List ℕ) (d : ℕ) (y : List ℕ) → kind_of m (c ∷ t) ≡ k → lone c t ≡ false → Inert d → after_plain m (d ∷ y) ≡ d ∷ y
      → UnmovedTurn (d ∷ y) (piece_of n inner m k (c ∷ t)) (piece_of big (long big) m k (c ∷ (t ++ d ∷ y)))
  piece_of_unmoved m kind.Ends big c t d y e l h stops = refl
  piece_of_unmoved m kind.Open big c t d y e l h stops = tt
  piece_of_unmoved m kind.Backslashed big c [] d y e l h stops = absurd (true≢false (sym (backslashed_begins m (c ∷ []) e) ∙ l))
  piece_of_unmoved m kind.Backslashed big c (a ∷ t) d y e l h stops = escape_rest_before c a t d y h
  piece_of_unmoved m kind.Opening big c t d y e l h stops = unmoved_some (d ∷ y) (bracket_at n inner (c ∷ t)) (bracket_at big (long big) (c ∷ (t ++ d ∷ y))) (bracket_unmoved big (d ∷ y) c t)
  piece_of_unmoved m kind.Variable big c t d y e l h stops = unmoved_some (d ∷ y) (variable_at n inner (c ∷ t)) (variable_at big (long big) (c ∷ (t ++ d ∷ y))) (variable_unmoved big c t d y h)
  piece_of_unmoved m kind.Plain big c t d y e l h stops = plain_before m (c ∷ t) d y h stops

  pub piece_unmoved : (m : Mode) (big c : ℕ) (t : List ℕ) (d : ℕ) (y : List ℕ) → lone c t ≡ false → Inert d → after_plain m (d ∷ y) ≡ d ∷ y
      → UnmovedTurn (d ∷ y) (piece_at n inner m (c ∷ t)) (piece_at big (long big) m (c ∷ (t ++ d ∷ y)))
  unfolding piece_at
  piece_unmoved m big c t d y l h stops = rw (kind_before m c t d y h) (piece_of_unmoved m (kind_of m (c ∷ t)) big c t d y refl l h stops)

  -- ---- pieces one after another

  abbrev pub PiecesFill : Mode → List ℕ → Type 0
  PiecesFill m t = (more : List ℕ) × ((big d : ℕ) (z : List ℕ) → Ender m d → Leaves (d ∷ z) (pieces_at big (long big) m (t ++ (more ++ d ∷ z))))

  long_shrinks : (m : Mode) (big : ℕ) → Shrinks (piece_at big (long big) m)
  long_shrinks m big = forward_shrinks (piece_at big (long big) m) (piece_forward big (long big) (inner_inside big levels) m)

  pub at_ender : (m : Mode) (big d : ℕ) (z : List ℕ) → Ender m d → Leaves (d ∷ z) (pieces_at big (long big) m (d ∷ z))
  unfolding pieces_at piece_at
  at_ender m big d z e = turn_last (piece_at big (long big) m) (d ∷ z) (d ∷ z) (rw (ender_kind m d z e) refl)

  pub then_pieces : (m : Mode) (big : ℕ) (t rest z : List ℕ) → LeavesSome rest (piece_at big (long big) m t) → Leaves z (pieces_at big (long big) m rest) → Leaves z (pieces_at big (long big) m t)
  unfolding pieces_at
  then_pieces m big t rest z first more = let (x, e) = some_ok rest (piece_at big (long big) m t) first in turn_then (piece_at big (long big) m) t z x rest (long_shrinks m big) e more

  escaped_backslash : (m : Mode) (big : ℕ) (y : List ℕ) → LeavesSome y (piece_at big (long big) m (92 ∷ 92 ∷ y))
  unfolding piece_at
  escaped_backslash m big y = rw (two_backslashes m y) (double_backslash y)

  pub lone_fill : (m : Mode) (big d : ℕ) (z : List ℕ) → Ender m d → Leaves (d ∷ z) (pieces_at big (long big) m (92 ∷ 92 ∷ d ∷ z))
  lone_fill m big d z e = then_pieces m big (92 ∷ 92 ∷ d ∷ z) (d ∷ z) (d ∷ z) (escaped_backslash m big (d ∷ z)) (at_ender m big d z e)

  plain_colon_fill : (m : Mode) (big d : ℕ) (z : List ℕ) → Ender m d → LeavesSome (d ∷ z) (piece_at big (long big) m (58 ∷ d ∷ z))
  unfolding piece_at
  plain_colon_fill m big d z e =
      let inert = ender_inert m d e in
      rw (kind_before m 58 [] d z inert, colon_plain m) (plain_before m (58 ∷ []) d z inert (ender_stops m d z e) ∙ ap (λ (x : List ℕ). x ++ d ∷ z) (plain_colon m))

  pub colon_fill : (m : Mode) (big d : ℕ) (z : List ℕ) → Ender m d → Leaves (d ∷ z) (pieces_at big (long big) m (58 ∷ d ∷ z))
  colon_fill m big d z e = then_pieces m big (58 ∷ d ∷ z) (d ∷ z) (d ∷ z) (plain_colon_fill m big d z e) (at_ender m big d z e)

  unmoved_turn : {A : Type 0} (w : List ℕ) (r l : Result (Option A × List ℕ) Syntax) (x : A) (rest : List ℕ) → UnmovedTurn w r l → r ≡ Ok (Some x, rest) → LeavesSome (rest ++ w) l
  unmoved_turn {A = A} w r l x rest h e = let P : Result (Option A × List ℕ) Syntax → Type 0 = λ q. UnmovedTurn w q l in subst P e h

  mere_fill : (m : Mode) (c : ℕ) (t : List ℕ) (x : Part) (rest : List ℕ) → piece_at n inner m (c ∷ t) ≡ Ok (Some x, rest) → lone c t ≡ false → Mere rest → PiecesFill m (c ∷ t)
  mere_fill m c t x _ e l mere_colon = (
    [],
    λ big d z end.
        then_pieces m big (c ∷ (t ++ d ∷ z)) (58 ∷ d ∷ z) (d ∷ z) (unmoved_turn (d ∷ z) (piece_at n inner m (c ∷ t)) _ x (58 ∷ []) (piece_unmoved m big c t d z l (ender_inert m d end) (ender_stops m d z end)) e) (colon_fill m big d z end),
  )
  mere_fill m c t x _ e l mere_backslash = (
    92 ∷ [],
    λ big d z end.
        then_pieces m big (c ∷ (t ++ 92 ∷ d ∷ z)) (92 ∷ 92 ∷ d ∷ z) (d ∷ z) (unmoved_turn (92 ∷ d ∷ z) (piece_at n inner m (c ∷ t)) _ x (92 ∷ []) (piece_unmoved m big c t 92 (d ∷ z) l inert_backslash (backslash_stops m d z end)) e) (lone_fill m big d z end),
  )

  -- a piece that leaves too little to be sure
  short_fill : (m : Mode) (c : ℕ) (t : List ℕ) (x : Part) (rest : List ℕ) → piece_at n inner m (c ∷ t) ≡ Ok (Some x, rest) → lone c t ≡ false → firm rest ≡ false → PiecesFill m (c ∷ t)
  short_fill m c t x [] e l h = (
    [],
    λ big d z end.
        then_pieces m big (c ∷ (t ++ d ∷ z)) (d ∷ z) (d ∷ z) (unmoved_turn (d ∷ z) (piece_at n inner m (c ∷ t)) _ x [] (piece_unmoved m big c t d z l (ender_inert m d end) (ender_stops m d z end)) e) (at_ender m big d z end),
  )
  short_fill m c t x (a ∷ rest) e l h = mere_fill m c t x (a ∷ rest) e l (mere (a ∷ rest) h refl)

  firm_fill : (m : Mode) (c : ℕ) (t : List ℕ) (x : Part) (rest : List ℕ) → piece_at n inner m (c ∷ t) ≡ Ok (Some x, rest) → firm rest ≡ true → PiecesFill m rest → PiecesFill m (c ∷ t)
  firm_fill m c t x rest e h (more, fills) = (
    more,
    λ big d z end.
        let y = more ++ d ∷ z in
        then_pieces m big (c ∷ (t ++ y)) (rest ++ y) (d ∷ z)
        (kept_turn Open y (c ∷ t) (piece_at n inner m (c ∷ t)) _ x rest (piece_kept n big y inner (long big) (inner_inside n levels) (inner_inside big levels) (inner_nested n big y levels) m (c ∷ t)) e h) (fills big d z end),
  )

  -- a turn that gives nothing leaves all
  none_of : (m : Mode) (k : Kind) (c : ℕ) (t : List ℕ) → IfOk (piece_of n inner m k (c ∷ t)) (λ u. NoneSome u.0 u.1)
  none_of m kind.Ends c t = refl
  none_of m kind.Open c t = tt
  none_of m kind.Backslashed c t = tt
  none_of m kind.Opening c t = if_bind (λ x. Unit {0}) (λ u. NoneSome u.0 u.1) (bracket_at n inner (c ∷ t)) _ (always (bracket_at n inner (c ∷ t))) (λ x h. tt)
  none_of m kind.Variable c t = if_bind (λ x. Unit {0}) (λ u. NoneSome u.0 u.1) (variable_at n inner (c ∷ t)) _ (always (variable_at n inner (c ∷ t))) (λ x h. tt)
  none_of m kind.Plain c t = tt

  none_at : (m : Mode) (c : ℕ) (t : List ℕ) → IfOk (piece_at n inner m (c ∷ t)) (λ u. NoneSome u.0 u.1)
  unfolding piece_at
  none_at m c t = none_of m (kind_of m (c ∷ t)) c t

  shrinks : (m : Mode) → Shrinks (piece_at n inner m)
  shrinks m = forward_shrinks (piece_at n inner m) (piece_forward n inner (inner_inside n levels) m)

  over_rest : (m : Mode) (t : List ℕ) (x : Part) (rest : List ℕ) → piece_at n inner m t ≡ Ok (Some x, rest) → Over (pieces_at n inner m t) → Over (pieces_at n inner m rest)
  unfolding pieces_at
  over_rest m t x rest e h = over_behind (x ∷ []) (all_turns (piece_at n inner m) rest) (over_same _ _ (one_turn (piece_at n inner m) t x rest (shrinks m) e) h)

  over_err : (m : Mode) (t : List ℕ) (f : Syntax) → piece_at n inner m t ≡ Err f → Over (pieces_at n inner m t) → is_open f ≡ true
  unfolding pieces_at
  over_err m t f e h = over_same _ (Err f) (bad_turn (piece_at n inner m) t f e) h

  over_none : (m : Mode) (t rest : List ℕ) → piece_at n inner m t ≡ Ok (None, rest) → Over (pieces_at n inner m t) → rest ≡ []
  unfolding pieces_at
  over_none m t rest e h = over_same _ (Ok ([], rest)) (last_turn (piece_at n inner m) t rest e) h

  fill_turn : (m : Mode) (c : ℕ) (t : List ℕ) → lone c t ≡ false → Over (pieces_at n inner m (c ∷ t)) → ((rest : List ℕ) → length rest < suc (length t) → Over (pieces_at n inner m rest) → PiecesFill m rest)
      → (r : Result (Option Part × List ℕ) Syntax) → piece_at n inner m (c ∷ t) ≡ r → PiecesFill m (c ∷ t)
  fill_turn m c t l over ih (Err f) e =
      let (more, h) = piece_open m c t f e (over_err m (c ∷ t) f e over) in
      (more, λ big d z end. then_pieces m big (c ∷ (t ++ (more ++ d ∷ z))) (d ∷ z) (d ∷ z) (h big (d ∷ z)) (at_ender m big d z end))
  fill_turn m c t l over ih (Ok (None, rest)) e =
      let some_rest = if_ok (λ u. NoneSome u.0 u.1) (piece_at n inner m (c ∷ t)) (None, rest) (none_at m c t) e in
      absurd (true≢false (sym some_rest ∙ ap some (over_none m (c ∷ t) rest e over)))
  fill_turn m c t l over ih (Ok (Some x, rest)) e = elim (cases_Bool (firm rest)) [
    | inl here ↦ firm_fill m c t x rest e here (ih rest (shorter (piece_at n inner m) (c ∷ t) x rest (shrinks m) e) (over_rest m (c ∷ t) x rest e over))
    | inr other ↦ short_fill m c t x rest e l other
  ]

  only_backslash : (m : Mode) (c : ℕ) (t : List ℕ) → lone c t ≡ true → PiecesFill m (c ∷ t)
  only_backslash m c [] h = subst (λ x. PiecesFill m (x ∷ [])) (sym (eqb-true c 92 h)) (92 ∷ [], lone_fill m)
  only_backslash m c (d ∷ t) h = absurd cc

  fill_n : (m : Mode) (k : ℕ) (t : List ℕ) → length t < k → Over (pieces_at n inner m t) → PiecesFill m t
  fill_n m zero t a over = absurd (omega arith)
  fill_n m (suc k) [] a over = ([], λ big d z end. at_ender m big d z end)
  fill_n m (suc k) (c ∷ t) a over = elim (cases_Bool (lone c t)) [
    | inl here ↦ only_backslash m c t here
    | inr other ↦ fill_turn m c t other over (λ rest less h. fill_n m k rest (omega arith) h) (piece_at n inner m (c ∷ t)) refl
  ]

  -- Pieces that are open, or go to the end of the text, can be filled up to what ends them.
  pub pieces_fill : (m : Mode) (t : List ℕ) → Over (pieces_at n inner m t) → PiecesFill m t
  pieces_fill m t over = fill_n m (suc (length t)) t (omega arith) over
