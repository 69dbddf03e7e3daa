-- Pieces are read alike where the text goes on, if what nests is.
use Rattle.std.proofs.Common.{◌≡◌, ℕ, zero, suc, Bool, true, false, ◌==◌, List, [], ◌∷◌, ◌++◌, Option, Some, None, Result, Ok, Err, refl, sym, ap, subst, ◌∙◌, inl, inr}
use Rattle.std.proofs.lemmas.Bool.{cases_Bool, eqb-true}
use Rattle.tcl_chars.specs.Characters.{open_paren, open_brace}
use Rattle.tcl_chars.specs.Place.{EndsWith, tail, before, place}
use Rattle.tcl_chars.specs.Reading.{◌>>=◌, Reading, after_turn, with_front, turns, all_turns}
use Rattle.tcl_words.specs.declared.fault.Syntax.{Syntax}
use Rattle.tcl_words.specs.declared.front.Kind.{Kind}
use Rattle.tcl_words.specs.declared.front.Kind.TheVariants as kind
use Rattle.tcl_words.specs.declared.front.Mode.{Mode}
use Rattle.tcl_words.specs.declared.front.Mode.TheVariants as mode
use Rattle.tcl_words.specs.Complete.{is_open}
use Rattle.tcl_words.specs.Parts.{Part, var}
use Rattle.tcl_words.specs.Words.{after_name, kind_of, fault_at_end, at_variable_brace, at_brace, begins_hidden_newline, verbatim_at, braced_at, Inner, named, variable_at, bracket_at, piece_of, piece_at, pieces_at, quoted_at, stretch}
use Rattle.tcl_chars.proofs.Ends.{ends_self, ends_more, ends_trans, forward_shrinks}
use Rattle.tcl_words.proofs.Forward.{Inside, piece_forward, name_end}
use Rattle.tcl_words.proofs.Longer.{same_cond, some, firm, Firm, Scanned, name_longer, variable_brace_longer, brace_longer}
use Rattle.tcl_words.proofs.LongerEscapes.{escape_longer}
use Rattle.tcl_words.proofs.LongerKinds.{settled, Short, nothing, backslash_alone, dollar_alone, colon_alone, dollar_colon, unsettled, not_firm, kind_longer, colon_plain, dollar_plain, dollar_colon_plain, backslash_kind, plain_colon, plain_dollar, plain_dollar_colon, plain_longer}
use Rattle.tcl_words.proofs.LongerTurns.{Open, Over, open_bind, front_open, open_turns, Same, Kept, KeptTurn, Loose, true_not_false, loose_kept, over_turn, kept_lift, same_lift, same_bind, bind_kept, some_turn, Goes, turns_over, turns_kept}

pub firm_some : (t : List ℕ) → firm t ≡ true → some t ≡ true
firm_some [] h = absurd cc
firm_some (c ∷ t) h = refl

-- a scan for what closes, where what it passes may be faulty
abbrev pub KeptScan : List ℕ → List ℕ → Result (List ℕ) Syntax → Result (List ℕ) Syntax → Type 0
KeptScan y cs (Ok rest) long = (some rest ≡ true) × (long ≡ Ok (rest ++ y))
KeptScan y cs (Err m) long = Same Open y cs m long

scanned : (y cs : List ℕ) (r long : Result (List ℕ) Syntax) → Scanned y r long → KeptScan y cs r long
scanned y cs (Ok rest) long h = h
scanned y cs (Err m) long h = λ k. true_not_false (is_open m) h k

scan_lift : (y cs t : List ℕ) (r long : Result (List ℕ) Syntax) → EndsWith cs t → KeptScan y t r long → KeptScan y cs r long
scan_lift y cs t (Ok rest) long e h = h
scan_lift y cs t (Err m) long e h = same_lift Open y cs t m long e h

bind_scan : {B : Type 0} (G : List ℕ → Bool) (y cs : List ℕ) (r long : Result (List ℕ) Syntax) (f g : List ℕ → Result (B × List ℕ) Syntax) → KeptScan y cs r long
    → ((d : ℕ) (s : List ℕ) → Kept Open G y cs (f (d ∷ s)) (g (d ∷ (s ++ y)))) → Kept Open G y cs (r >>= f) (long >>= g)
bind_scan G y cs (Err m) long f g h next = same_bind Open Open y cs m long g (open_bind g) h
bind_scan G y cs (Ok []) long f g h next = absurd (let e = h.0 in cc)
bind_scan G y cs (Ok (d ∷ s)) long f g h next =
    let P : Result (List ℕ) Syntax → Type 0 = λ l. Kept Open G y cs (f (d ∷ s)) (l >>= g) in
    subst P (sym h.1) (next d s)

pub record Nested (y : List ℕ) (inner long : Inner) : Type 0 where
  pub bracket : (t : List ℕ) → KeptScan y t (inner.bracket t) (long.bracket (t ++ y))
  pub index : (t : List ℕ) → Kept Open some y t (inner.index t) (long.index (t ++ y))

ends_within : {c : ℕ} {all rest : List ℕ} → EndsWith all (c ∷ rest) → EndsWith all rest
ends_within {c = c} {all = all} {rest = rest} e = ends_trans all (c ∷ rest) rest e (ends_more c rest rest (ends_self rest))

short_loose : (rest : List ℕ) → some rest ≡ false → firm rest ≡ false
short_loose [] h = refl
short_loose (c ∷ rest) h = absurd cc

-- ---- the text inside braces

abbrev Fine : {A : Type 0} → Result A Syntax → Type 0
Fine {A = A} r = (x : A) × (r ≡ Ok x)

front_fine : {A : Type 0} (front : List A) (r : Result (List A × List ℕ) Syntax) → Fine r → Fine (with_front front r)
front_fine front r (x, e) = ((front ++ x.0, x.1), ap (with_front front) e)

after_fine : {A : Type 0} (next : Reading Syntax (List A)) → ((t : List ℕ) → Fine (next t)) → (t : Option A × List ℕ) → Fine (after_turn next t.0 t.1)
after_fine next h (None, rest) = (([], rest), refl)
after_fine next h (Some x, rest) = front_fine (x ∷ []) (next rest) (h rest)

turns_fine : {A : Type 0} (step : Reading Syntax (Option A)) → ((t : List ℕ) → Fine (step t)) → (n : ℕ) (t : List ℕ) → Fine (turns step n t)
unfolding turns
turns_fine step h zero t = (([], t), refl)
turns_fine step h (suc n) t =
    let (p, e) = h t in
    let (q, f) = after_fine (turns step n) (turns_fine step h n) p in
    (q, ap (λ (r : Result _ Syntax). r >>= λ u. after_turn (turns step n) u.0 u.1) e ∙ f)

verbatim_fine : (size : ℕ) (t : List ℕ) → Fine (verbatim_at size t)
unfolding verbatim_at
verbatim_fine size [] = ((None, []), refl)
verbatim_fine size (c ∷ t) = elim (cases_Bool (begins_hidden_newline (c ∷ t))) [
  | inl here ↦ rw here (_, refl)
  | inr other ↦ rw other (_, refl)
]

pub inside_fine : (size : ℕ) (t : List ℕ) → Fine (all_turns (verbatim_at size) t)
unfolding all_turns
inside_fine size t = turns_fine (verbatim_at size) (verbatim_fine size) _ t

pub braced_kept : (n big : ℕ) (y : List ℕ) (c : ℕ) (t : List ℕ) → Kept Open some y (c ∷ t) (braced_at n (c ∷ t)) (braced_at big (c ∷ (t ++ y)))
unfolding braced_at
braced_kept n big y c t =
    bind_scan some y (c ∷ t) (at_brace false 0 t) (at_brace false 0 (t ++ y)) _ _ (scanned y (c ∷ t) _ _ (brace_longer false 0 t y)) (λ d s.
    let (x, e) = inside_fine (place n (d ∷ s)) (before t (d ∷ s)) in
    let (z, f) = inside_fine (place big (d ∷ (s ++ y))) (before (t ++ y) (d ∷ (s ++ y))) in
    rw (e, f) (λ h. (z.0, refl)))

-- ---- pieces

pub open_end : (m : Mode) → is_open (fault_at_end m) ≡ true
open_end (mode.Bare nested) = refl
open_end mode.Quoted = refl
open_end mode.Index = refl

pub tail_kept : {A : Type 0} (y cs : List ℕ) (p x : A) (rest : List ℕ) → some rest ≡ true → Kept Open some y cs (Ok (p, tail rest)) (Ok (x, tail (rest ++ y)))
tail_kept y cs p x [] h = absurd cc
tail_kept y cs p x (d ∷ s) h = λ k. (x, refl)

same_turn : {A : Type 0} (z : A) (rest more : List ℕ) → rest ≡ more → (x : A) × (let r : Result (Option A × List ℕ) Syntax = Ok (Some z, rest) in r ≡ Ok (Some x, more))
same_turn z rest more e = (z, ap (λ (r : List ℕ). Ok (Some z, r)) e)

pub tail_loose : (rest : List ℕ) → some rest ≡ false → some (tail rest) ≡ false
tail_loose [] h = refl
tail_loose (d ∷ s) h = absurd cc

module _ (n big : ℕ) (y : List ℕ) (inner long : Inner) (inside : Inside inner) (inside_long : Inside long) (nests : Nested y inner long) where
  pub named_loose : (cs name rest : List ℕ) → firm rest ≡ false → Loose firm (named n inner cs name rest)
  named_loose cs name [] h = refl
  named_loose cs name (c ∷ d ∷ rest) h = absurd cc
  named_loose cs name (c ∷ []) h = elim (cases_Bool (c == open_paren)) [
    | inl here ↦ let P : ℕ → Type 0 = λ x. firm (x ∷ []) ≡ false in absurd (let e : P 40 = subst P (eqb-true c 40 here) h in cc)
    | inr other ↦ rw other h
  ]

  named_firm : (all cs name csl namel rest : List ℕ) → firm rest ≡ true → EndsWith all rest → Kept Open firm y all (named n inner cs name rest) (named big long csl namel (rest ++ y))
  named_firm all cs name csl namel [] h e = absurd cc
  named_firm all cs name csl namel (c ∷ rest) h e =
      same_cond (Kept {A = Part} Open firm y all) (c == open_paren) _ _ _ _
      (bind_kept Open Open some firm y all (inner.index rest) (long.index (rest ++ y)) _ _ (open_bind _) (kept_lift Open some y all rest _ _ (ends_within e) (nests.index rest)) (λ p q f x. λ k. (_, refl)) (λ p q f. short_loose p.1 f))
      (λ k. (_, refl))

  named_kept : (all cs name csl namel rest l : List ℕ) → Firm y rest l → EndsWith all rest → Kept Open firm y all (named n inner cs name rest) (named big long csl namel l)
  named_kept all cs name csl namel rest l h e = elim (cases_Bool (firm rest)) [
    | inl here ↦ rw (h here) (named_firm all cs name csl namel rest here e)
    | inr other ↦ loose_kept Open firm y all _ _ (named_loose cs name rest other)
  ]

  pub variable_kept : (c : ℕ) (t : List ℕ) → Kept Open firm y (c ∷ t) (variable_at n inner (c ∷ t)) (variable_at big long (c ∷ (t ++ y)))
  unfolding variable_at after_name
  variable_kept c [] = loose_kept Open firm y (c ∷ []) (variable_at n inner (c ∷ [])) (variable_at big long (c ∷ y)) refl
  variable_kept c (d ∷ t) =
      same_cond (Kept {A = Part} Open firm y (c ∷ d ∷ t)) (d == open_brace) _ _ _ _
      (bind_scan firm y (c ∷ d ∷ t) (at_variable_brace t) (at_variable_brace (t ++ y)) (λ close. Ok (var (stretch n (c ∷ d ∷ t) (tail close)) (stretch n t close), tail close))
      (λ close. Ok (var (stretch big (c ∷ d ∷ (t ++ y)) (tail close)) (stretch big (t ++ y) close), tail close)) (scanned y (c ∷ d ∷ t) _ _ (variable_brace_longer t y)) (λ e s. λ k. (_, refl)))
      (named_kept (c ∷ d ∷ t) (c ∷ d ∷ t) (d ∷ t) _ _ (after_name false (d ∷ t)) _ (name_longer false (d ∷ t) y) (ends_more c (d ∷ t) _ (name_end false (d ∷ t))))

  bracket_kept : (c : ℕ) (t : List ℕ) → Kept Open firm y (c ∷ t) (bracket_at n inner (c ∷ t)) (bracket_at big long (c ∷ (t ++ y)))
  bracket_kept c t = bind_scan firm y (c ∷ t) (inner.bracket t) (long.bracket (t ++ y)) _ _ (scan_lift y (c ∷ t) t _ _ (ends_more c t t (ends_self t)) (nests.bracket t)) (λ d s. λ k. (_, refl))

  piece_of_kept : (m : Mode) (k : Kind) (c : ℕ) (t : List ℕ) → KeptTurn Open y (c ∷ t) (piece_of n inner m k (c ∷ t)) (piece_of big long m k (c ∷ (t ++ y)))
  piece_of_kept m kind.Ends c t = λ h. refl
  piece_of_kept m kind.Open c t = λ h. true_not_false (is_open (fault_at_end m)) (open_end m) h
  piece_of_kept m kind.Backslashed c t = λ h. same_turn _ _ _ (escape_longer c t y (firm_some _ h))
  piece_of_kept m kind.Opening c t = some_turn Open Open y (c ∷ t) _ _ (open_bind _) (bracket_kept c t)
  piece_of_kept m kind.Variable c t = some_turn Open Open y (c ∷ t) _ _ (open_bind _) (variable_kept c t)
  piece_of_kept m kind.Plain c t = λ h. same_turn _ _ _ (plain_longer m (c ∷ t) y h)

  pub piece_over : (m : Mode) (t : List ℕ) → Short t → Over (piece_at n inner m t)
  unfolding piece_at kind_of
  piece_over (mode.Bare nested) _ nothing = refl
  piece_over mode.Quoted _ nothing = refl
  piece_over mode.Index _ nothing = refl
  piece_over m _ backslash_alone = rw (backslash_kind m) refl
  piece_over m _ dollar_alone = rw (dollar_plain m) (plain_dollar m)
  piece_over m _ colon_alone = rw (colon_plain m) (plain_colon m)
  piece_over m _ dollar_colon = rw (dollar_colon_plain m) (plain_dollar_colon m)

  pub piece_kept : (m : Mode) (t : List ℕ) → KeptTurn Open y t (piece_at n inner m t) (piece_at big long m (t ++ y))
  unfolding piece_at
  piece_kept m [] = over_turn Open y [] _ _ (piece_over m [] nothing)
  piece_kept m (c ∷ t) = elim (cases_Bool (settled c t)) [
    | inl here ↦ rw (kind_longer m c t y here) (piece_of_kept m (kind_of m (c ∷ t)) c t)
    | inr other ↦ over_turn Open y (c ∷ t) _ _ (piece_over m (c ∷ t) (unsettled c t other))
  ]

  pub pieces_go : (m : Mode) → Goes Open y (piece_at n inner m) (piece_at big long m)
  pieces_go m = record { kept = piece_kept m; over = λ t h. piece_over m t (not_firm t h); forward = piece_forward n inner inside m }

  pub pieces_kept : (m : Mode) (t : List ℕ) → Kept Open some y t (pieces_at n inner m t) (pieces_at big long m (t ++ y))
  unfolding pieces_at
  pieces_kept m t = turns_kept Open y (piece_at n inner m) (piece_at big long m) (pieces_go m) (forward_shrinks (piece_at big long m) (piece_forward big long inside_long m)) Open (open_turns (piece_at big long m)) front_open t

  pub pieces_over : (m : Mode) (t : List ℕ) → firm t ≡ false → Over (pieces_at n inner m t)
  unfolding pieces_at
  pieces_over m t h = turns_over Open y (piece_at n inner m) (piece_at big long m) (pieces_go m) t h

  pub quoted_kept : (c : ℕ) (t : List ℕ) → Kept Open some y (c ∷ t) (quoted_at n inner (c ∷ t)) (quoted_at big long (c ∷ (t ++ y)))
  unfolding quoted_at
  quoted_kept c t =
      bind_kept Open Open some some y (c ∷ t) (pieces_at n inner mode.Quoted t) (pieces_at big long mode.Quoted (t ++ y)) _ _ (open_bind _) (kept_lift Open some y (c ∷ t) t _ _ (ends_more c t t (ends_self t)) (pieces_kept mode.Quoted t))
      (λ p e h x. tail_kept y (c ∷ t) p.0 x p.1 h) (λ p e h. tail_loose p.1 h)
