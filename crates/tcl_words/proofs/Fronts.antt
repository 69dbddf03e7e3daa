-- Which fronts of a text can go on.
use Rattle.std.proofs.Common.{◌≡◌, ℕ, Bool, true, false, ◌==◌, List, [], ◌∷◌, ◌++◌, Option, Some, None, Result, Ok, Err, refl, sym, ap, subst, ◌∙◌, inl, inr, ◌⊎◌, append_assoc}
use Rattle.std.proofs.lemmas.Bool.{cases_Bool, eqb-true, true≢false}
use Rattle.std.proofs.lemmas.List.{append-nil}
use Rattle.tcl_chars.specs.Characters.{newline}
use Rattle.tcl_chars.specs.Place.{begins}
use Rattle.tcl_words.specs.declared.blanks.Gap.TheVariants as gap
use Rattle.tcl_words.specs.declared.fault.Syntax.{Syntax}
use Rattle.tcl_words.specs.Complete.{is_open}
use Rattle.tcl_words.specs.First.{First, first, first_of, none, malformed, command}
use Rattle.tcl_words.specs.Fronts.{Hangs}
use Rattle.tcl_words.specs.Parts.{Shape}
use Rattle.tcl_words.specs.Words.{after_gaps, ends_word, words_at, first_at, inner_at}
use Rattle.tcl_words.proofs.Fills.{LeavesSome}
use Rattle.tcl_words.proofs.FillsCommands.{first_fill, first_open}
use Rattle.tcl_words.proofs.FillsLevels.{filled, first_none, first_some, whole_first}
use Rattle.tcl_words.proofs.FillsWords.{at_semicolon}
use Rattle.tcl_words.proofs.LongerTurns.{Over, over_same}
use Rattle.tcl_words.proofs.LongerWords.{fault_kept}

-- ---- the laws of fronts, said of what is read

abbrev pub is_well : First → Bool
is_well (none rest) = true
is_well (malformed m) = false
is_well (command words rest) = true

abbrev pub GoesOn : ℕ → Bool → List ℕ → Type 0
GoesOn levels nested cs = (more : List ℕ) × ((size : ℕ) → is_well (first size levels nested (cs ++ more)) ≡ true)

abbrev pub Always : ℕ → Bool → Syntax → List ℕ → Type 0
Always levels nested m cs = (size : ℕ) (more : List ℕ) → first size levels nested (cs ++ more) ≡ malformed m

pub was_malformed : (r : Result (Option (List Shape) × List ℕ) Syntax) (m : Syntax) → first_of r ≡ malformed m → r ≡ Err m
was_malformed (Err f) m e = cc
was_malformed (Ok (None, rest)) m e = absurd cc
was_malformed (Ok (Some words, rest)) m e = absurd cc

pub fault_stays : (size longer levels : ℕ) (nested : Bool) (cs more : List ℕ) (m : Syntax) → is_open m ≡ false → first size levels nested cs ≡ malformed m
    → (first longer levels nested (cs ++ more) ≡ malformed m) ⊎ ((begins newline more ≡ true) × Hangs m cs)
unfolding first
fault_stays size longer levels nested cs more m shut e = elim (fault_kept size longer levels nested cs more m (was_malformed _ m e) shut) [
  | inl same ↦ inl (ap first_of same)
  | inr (newline_, hangs, after) ↦ inr (newline_, hangs)
]

well_some : (z : List ℕ) (r : Result (Option (List Shape) × List ℕ) Syntax) → LeavesSome z r → is_well (first_of r) ≡ true
well_some z (Ok (Some words, rest)) h = refl
well_some z (Ok (None, rest)) h = absurd h
well_some z (Err m) h = absurd h

-- a front of a text that can go on can go on
goes_back : (levels : ℕ) (nested : Bool) (cs end : List ℕ) → GoesOn levels nested (cs ++ end) → GoesOn levels nested cs
goes_back levels nested cs end (more, h) = (end ++ more, λ size. ap (λ (x : List ℕ). is_well (first size levels nested x)) (sym (append_assoc cs end more)) ∙ h size)

open_goes : (size levels : ℕ) (nested : Bool) (cs : List ℕ) (m : Syntax) → is_open m ≡ true → first size levels nested cs ≡ malformed m → GoesOn levels nested cs
unfolding first
open_goes size levels nested cs m o e =
    let (more, fills) = first_open size levels (filled size levels) nested cs m (was_malformed _ m e) o in
    (more ++ 59 ∷ [], λ big. well_some _ (first_at big (inner_at big levels) nested (cs ++ (more ++ 59 ∷ []))) (fills big 59 [] (at_semicolon nested)))

pub open_goes_on : (size levels : ℕ) (nested : Bool) (cs : List ℕ) (m : Syntax) → is_open m ≡ true → first size levels nested cs ≡ malformed m → (front rest : List ℕ) → cs ≡ front ++ rest → GoesOn levels nested front
open_goes_on size levels nested cs m o e front rest joined = goes_back levels nested front rest (subst (GoesOn levels nested) joined (open_goes size levels nested cs m o e))

-- a text whose last character is a newline doesn't end in a backslash
last_of : List ℕ → ℕ
last_of [] = 0
last_of (c ∷ []) = c
last_of (c ∷ d ∷ cs) = last_of (d ∷ cs)

last_put : (cs : List ℕ) (c : ℕ) → last_of (cs ++ c ∷ []) ≡ c
unfolding last_of
last_put [] c = refl
last_put (a ∷ []) c = refl
last_put (a ∷ b ∷ cs) c = last_put (b ∷ cs) c

no_hang : (m : Syntax) (cs : List ℕ) → Hangs m (cs ++ 10 ∷ []) → ⊥
no_hang m cs (front, c, closes, joined) =
    let e : front ++ c ∷ 92 ∷ [] ≡ (front ++ c ∷ []) ++ 92 ∷ [] = sym (append_assoc front (c ∷ []) (92 ∷ [])) in
    let same : 10 ≡ 92 = sym (last_put cs 10) ∙ ap last_of (joined ∙ e) ∙ last_put (front ++ c ∷ []) 92 in
    absurd (true≢false (ap (λ x. x == 10) same))

not_well : (f : First) (m : Syntax) → f ≡ malformed m → is_well f ≡ false
not_well f m e = ap is_well e

well_or_not : {A : Type 0} (f : First) (m : Syntax) → is_well f ≡ true → f ≡ malformed m → A
well_or_not f m h e = absurd (true≢false (sym h ∙ not_well f m e))

-- where a newline doesn't help nothing does
never : (size levels : ℕ) (nested : Bool) (cs : List ℕ) (m : Syntax) → is_open m ≡ false → first size levels nested cs ≡ malformed m → first size levels nested (cs ++ 10 ∷ []) ≡ malformed m → Always levels nested m cs
never size levels nested cs m shut e f longer [] = elim (fault_stays size longer levels nested cs [] m shut e) [
  | inl same ↦ same
  | inr (newline_, hangs) ↦ absurd cc
]
never size levels nested cs m shut e f longer (c ∷ more) = elim (cases_Bool (c == newline)) [
  | inr other ↦ elim (fault_stays size longer levels nested cs (c ∷ more) m shut e) [
    | inl same ↦ same
    | inr (newline_, hangs) ↦ absurd (true≢false (sym newline_ ∙ other))
  ]
  | inl here ↦ elim (fault_stays size longer levels nested (cs ++ 10 ∷ []) more m shut f) [
    | inl same ↦
        let joined : (cs ++ 10 ∷ []) ++ more ≡ cs ++ c ∷ more = append_assoc cs (10 ∷ []) more ∙ ap (λ (x : ℕ). cs ++ x ∷ more) (sym (eqb-true c 10 here)) in
        ap (first longer levels nested) (sym joined) ∙ same
    | inr (newline_, hangs) ↦ absurd (no_hang m cs hangs)
  ]
]

-- nothing but separators and comments is so at any size
no_command : (longer levels : ℕ) (nested : Bool) (cs : List ℕ) → ends_word nested (after_gaps gap.Between cs) ≡ true → is_well (first_of (first_at longer (inner_at longer levels) nested (cs ++ []))) ≡ true
unfolding first_at
no_command longer levels nested cs h = rw (append-nil cs, h) refl

command_goes_on : (size levels : ℕ) (nested : Bool) (cs : List ℕ) (x : List Shape) (s : List ℕ) → ends_word nested (after_gaps gap.Between cs) ≡ false → words_at size (inner_at size levels) nested (after_gaps gap.Between cs) ≡ Ok (x, s) → GoesOn levels nested cs
unfolding first
command_goes_on size levels nested cs x [] open_ e =
    let (more, fills) = first_fill size levels (filled size levels) nested cs open_ (over_same (Ok (x, [])) _ (sym e) refl) in
    (more ++ 59 ∷ [], λ big. well_some _ (first_at big (inner_at big levels) nested (cs ++ (more ++ 59 ∷ []))) (fills big 59 [] (at_semicolon nested)))
command_goes_on size levels nested cs x (a ∷ s) open_ e = ([], λ big. well_some _ (first_at big (inner_at big levels) nested (cs ++ [])) (whole_first size levels (filled size levels) nested big cs [] x a s open_ e))

-- a text that is read, or open, can go on
can_go : (size levels : ℕ) (nested : Bool) (cs : List ℕ) (r : Result (Option (List Shape) × List ℕ) Syntax) → first_at size (inner_at size levels) nested cs ≡ r → GoesOn levels nested cs ⊎ (m : Syntax) × (is_open m ≡ false) × (r ≡ Err m)
unfolding first
can_go size levels nested cs (Ok (None, rest)) e = inl ([], λ big. no_command big levels nested cs (first_none size levels (filled size levels) nested cs rest e).0)
can_go size levels nested cs (Ok (Some x, rest)) e = let (open_, s, read, same) = first_some size levels (filled size levels) nested cs x rest e in inl (command_goes_on size levels nested cs x s open_ read)
can_go size levels nested cs (Err m) e = elim (cases_Bool (is_open m)) [
  | inl here ↦ inl (open_goes size levels nested cs m here (ap first_of e))
  | inr other ↦ inr (m, other, refl)
]

newline_put : (levels : ℕ) (nested : Bool) (cs : List ℕ) (m : Syntax) → is_open m ≡ false → first_at 0 (inner_at 0 levels) nested cs ≡ Err m
    → (first_at 0 (inner_at 0 levels) nested (cs ++ 10 ∷ []) ≡ Err m) ⊎ Over (first_at 0 (inner_at 0 levels) nested (cs ++ 10 ∷ []))
newline_put levels nested cs m shut e = elim (fault_kept 0 0 levels nested cs (10 ∷ []) m e shut) [
  | inl same ↦ inl same
  | inr (newline_, hangs, after) ↦ inr (after refl)
]

abbrev Shut : ℕ → Bool → List ℕ → Type 0
Shut levels nested cs = (m : Syntax) × Always levels nested m cs

-- a text can go on, or never can
decide : (levels : ℕ) (nested : Bool) (cs : List ℕ) → GoesOn levels nested cs ⊎ Shut levels nested cs
unfolding first
decide levels nested cs = elim (can_go 0 levels nested cs (first_at 0 (inner_at 0 levels) nested cs) refl) [
  | inl goes ↦ inl goes
  | inr (m, shut, e) ↦ elim (newline_put levels nested cs m shut e) [
    | inl same ↦ inr (m, never 0 levels nested cs m shut (ap first_of e) (ap first_of same))
    | inr over ↦ elim (can_go 0 levels nested (cs ++ 10 ∷ []) (first_at 0 (inner_at 0 levels) nested (cs ++ 10 ∷ [])) refl) [
      | inl goes ↦ inl (goes_back levels nested cs (10 ∷ []) goes)
      | inr (k, closed, f) ↦ absurd (true≢false (sym (over_same _ (Err k) f over) ∙ closed))
    ]
  ]
]

-- a malformed text that can go on ends in a backslash
hangs_if : (size levels : ℕ) (nested : Bool) (cs : List ℕ) (m : Syntax) → is_open m ≡ false → first size levels nested cs ≡ malformed m → GoesOn levels nested cs → Hangs m cs
hangs_if size levels nested cs m shut e (more, h) = elim (fault_stays size size levels nested cs more m shut e) [
  | inl same ↦ well_or_not _ m (h size) same
  | inr (newline_, hangs) ↦ hangs
]

abbrev Front : ℕ → Bool → List ℕ → Type 0
Front levels nested cs = (m : Syntax) × (before : List ℕ) × (c : ℕ) × (rest : List ℕ) × (cs ≡ before ++ c ∷ rest) × GoesOn levels nested before × Always levels nested m (before ++ c ∷ [])

-- the first front that never can
walk : (levels : ℕ) (nested : Bool) (before rest : List ℕ) → GoesOn levels nested before → Front levels nested (before ++ rest) ⊎ GoesOn levels nested (before ++ rest)
walk levels nested before [] goes = inr (subst (GoesOn levels nested) (sym (append-nil before)) goes)
walk levels nested before (c ∷ rest) goes = elim (decide levels nested (before ++ c ∷ [])) [
  | inr (m, always) ↦ inl (m, before, c, rest, refl, goes, always)
  | inl on ↦
      let e : (before ++ c ∷ []) ++ rest ≡ before ++ c ∷ rest = append_assoc before (c ∷ []) rest in
      let P : List ℕ → Type 0 = λ x. Front levels nested x ⊎ GoesOn levels nested x in
      subst P e (walk levels nested (before ++ c ∷ []) rest on)
]

empty_goes : (levels : ℕ) (nested : Bool) → GoesOn levels nested []
unfolding first first_at after_gaps
empty_goes levels nested = ([], λ size. refl)

fault_of : {a b : Syntax} → malformed a ≡ malformed b → a ≡ b
fault_of e = cc

-- the front's fault is the text's
front_fault : (size levels : ℕ) (nested : Bool) (cs before rest : List ℕ) (c : ℕ) (m k : Syntax) → cs ≡ before ++ c ∷ rest → Always levels nested k (before ++ c ∷ []) → first size levels nested cs ≡ malformed m → k ≡ m
front_fault size levels nested cs before rest c m k joined always e =
    let there : first size levels nested cs ≡ malformed k = ap (first size levels nested) (joined ∙ sym (append_assoc before (c ∷ []) rest)) ∙ always size rest in
    fault_of (sym there ∙ e)

pub fault_at_front : (size levels : ℕ) (nested : Bool) (cs : List ℕ) (m : Syntax) → is_open m ≡ false → first size levels nested cs ≡ malformed m
    → ((before : List ℕ) × (c : ℕ) × (rest : List ℕ) × (cs ≡ before ++ c ∷ rest) × GoesOn levels nested before × Always levels nested m (before ++ c ∷ []))
    ⊎ (Hangs m cs × GoesOn levels nested cs)
fault_at_front size levels nested cs m shut e = elim (walk levels nested [] cs (empty_goes levels nested)) [
  | inl (k, before, c, rest, joined, goes, always) ↦
      let same : k ≡ m = front_fault size levels nested cs before rest c m k joined always e in
      inl (before, c, rest, joined, goes, subst (λ x. Always levels nested x (before ++ c ∷ [])) same always)
  | inr goes ↦ inr (hangs_if size levels nested cs m shut e goes, goes)
]
