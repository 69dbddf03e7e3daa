-- Turns that are each read alike where the text goes on are so one after another, also where a newline undoes the fault of a last backslash.
use Rattle.std.proofs.Common.{◌≡◌, ℕ, zero, suc, ◌<◌, Bool, true, false, List, [], ◌∷◌, ◌++◌, length, Option, Some, None, Result, Ok, Err, refl, sym, ap, subst, ◌∙◌, arith, inl, inr, ◌⊎◌, append_assoc}
use Rattle.std.proofs.lemmas.Bool.{cases_Bool}
use Rattle.tcl_chars.specs.Characters.{newline}
use Rattle.tcl_chars.specs.Place.{EndsWith, begins}
use Rattle.tcl_chars.specs.Reading.{◌>>=◌, Reading, with_front, after_turn, turns, all_turns}
use Rattle.tcl_chars.proofs.Turns.{Shrinks, shorter, one_turn, last_turn, bad_turn}
use Rattle.tcl_words.specs.declared.fault.Syntax.{Syntax}
use Rattle.tcl_words.specs.Complete.{is_open}
use Rattle.tcl_words.specs.Fronts.{Hangs}
use Rattle.tcl_chars.proofs.Ends.{Moves, Forward, forward_shrinks, ends_self, if_ok}
use Rattle.tcl_words.proofs.Longer.{some, firm}

-- ---- what is read where a newline is put behind a backslash that ended the text

-- something is open
abbrev pub Open : {A : Type 0} → Result A Syntax → Type 0
Open (Ok p) = ⊥
Open (Err m) = is_open m ≡ true

-- nothing is left, or the text is open
abbrev pub Over : {A : Type 0} → Result (A × List ℕ) Syntax → Type 0
Over (Ok p) = p.1 ≡ []
Over (Err m) = is_open m ≡ true

-- a word is read, and the backslash-newline is left
abbrev pub Left : {A : Type 0} → Result (A × List ℕ) Syntax → Type 0
Left (Ok p) = p.1 ≡ 92 ∷ 10 ∷ []
Left (Err m) = is_open m ≡ true

abbrev pub LeftSome : {A : Type 0} → Result (Option A × List ℕ) Syntax → Type 0
LeftSome (Ok (None, rest)) = ⊥
LeftSome (Ok (Some x, rest)) = rest ≡ 92 ∷ 10 ∷ []
LeftSome (Err m) = is_open m ≡ true

pub open_bind : {B D : Type 0} (g : B → Result D Syntax) (q : Result B Syntax) → Open q → Open (q >>= g)
open_bind g (Ok p) h = absurd h
open_bind g (Err m) h = h

pub open_left : {A B : Type 0} (g : A → Result (B × List ℕ) Syntax) (q : Result A Syntax) → Open q → Left (q >>= g)
open_left g (Ok p) h = absurd h
open_left g (Err m) h = h

pub left_some : {A : Type 0} (q : Result (A × List ℕ) Syntax) → Left q → LeftSome (q >>= λ x. Ok (Some x.0, x.1))
left_some (Ok p) h = h
left_some (Err m) h = h

pub over_same : {A : Type 0} (r s : Result (A × List ℕ) Syntax) → r ≡ s → Over r → Over s
over_same {A = A} r s e h = let P : Result (A × List ℕ) Syntax → Type 0 = λ q. Over q in subst P e h

pub front_open : {A : Type 0} (front : List A) (r : Result (List A × List ℕ) Syntax) → Open r → Open (with_front front r)
front_open front (Ok p) h = absurd h
front_open front (Err m) h = h

pub front_over : {A : Type 0} (front : List A) (r : Result (List A × List ℕ) Syntax) → Over r → Over (with_front front r)
front_over front (Ok p) h = h
front_over front (Err m) h = h

pub open_turns : {A : Type 0} (step : Reading Syntax (Option A)) (u : List ℕ) → Open (step u) → Open (all_turns step u)
open_turns {A = A} step u h = opens (step u) refl h
  where
    opens : (q : Result (Option A × List ℕ) Syntax) → step u ≡ q → Open q → Open (all_turns step u)
    opens (Ok p) e h = absurd h
    opens (Err m) e h = let P : Result (List A × List ℕ) Syntax → Type 0 = λ q. Open q in subst P (sym (bad_turn step u m e)) h

-- ---- readings of a text and of a longer one

-- The same fault. Or the backslash at the end of the text is one of a backslash-newline in the longer one; where this one ends
-- there, R holds of what is read.
abbrev pub Same : {B : Type 0} → (Result B Syntax → Type 0) → List ℕ → List ℕ → Syntax → Result B Syntax → Type 0
Same R y cs m long = is_open m ≡ false → (long ≡ Err m) ⊎ ((begins newline y ≡ true) × Hangs m cs × (y ≡ 10 ∷ [] → R long))

-- What is read of a text, where enough is left, is read of the longer one.
abbrev pub Kept : {A : Type 0} → (Result (A × List ℕ) Syntax → Type 0) → (List ℕ → Bool) → List ℕ → List ℕ → Result (A × List ℕ) Syntax → Result (A × List ℕ) Syntax → Type 0
Kept {A = A} R F y cs (Ok p) long = F p.1 ≡ true → (x : A) × (long ≡ Ok (x, p.1 ++ y))
Kept R F y cs (Err m) long = Same R y cs m long

abbrev pub KeptTurn : {A : Type 0} → (Result (Option A × List ℕ) Syntax → Type 0) → List ℕ → List ℕ → Result (Option A × List ℕ) Syntax → Result (Option A × List ℕ) Syntax → Type 0
KeptTurn R y cs (Ok (None, rest)) long = some rest ≡ true → long ≡ Ok (None, rest ++ y)
KeptTurn {A = A} R y cs (Ok (Some x, rest)) long = firm rest ≡ true → (z : A) × (long ≡ Ok (Some z, rest ++ y))
KeptTurn R y cs (Err m) long = Same R y cs m long

-- too little is left, or the text is open
abbrev pub Loose : {A : Type 0} → (List ℕ → Bool) → Result (A × List ℕ) Syntax → Type 0
Loose F (Ok p) = F p.1 ≡ false
Loose F (Err m) = is_open m ≡ true

pub true_not_false : {A : Type 0} (b : Bool) → b ≡ true → b ≡ false → A
true_not_false b t f = absurd (let e : true ≡ false = sym t ∙ f in cc)

pub loose_kept : {A : Type 0} (R : Result (A × List ℕ) Syntax → Type 0) (F : List ℕ → Bool) (y cs : List ℕ) (r long : Result (A × List ℕ) Syntax) → Loose F r → Kept R F y cs r long
loose_kept R F y cs (Ok p) long h = λ k. true_not_false (F p.1) k h
loose_kept R F y cs (Err m) long h = λ k. true_not_false (is_open m) h k

pub over_turn : {A : Type 0} (R : Result (Option A × List ℕ) Syntax → Type 0) (y cs : List ℕ) (r long : Result (Option A × List ℕ) Syntax) → Over r → KeptTurn R y cs r long
over_turn R y cs (Ok (None, rest)) long h = λ k. true_not_false (some rest) k (ap some h)
over_turn R y cs (Ok (Some x, rest)) long h = λ k. true_not_false (firm rest) k (ap firm h)
over_turn R y cs (Err m) long h = λ k. true_not_false (is_open m) h k

hangs_lift : (m : Syntax) (cs t : List ℕ) → EndsWith cs t → Hangs m t → Hangs m cs
hangs_lift m cs t e (front, c, closes, joined) =
    (e.front ++ front, c, closes, e.joined ∙ ap (λ (x : List ℕ). e.front ++ x) joined ∙ sym (append_assoc e.front front (c ∷ 92 ∷ [])))

-- so it is of what is read of it further
pub same_on : {A B : Type 0} (R : Result A Syntax → Type 0) (S : Result B Syntax → Type 0) (y cs t : List ℕ) (m : Syntax) (long : Result A Syntax) (more : Result B Syntax) → EndsWith cs t → (long ≡ Err m → more ≡ Err m) → (R long → S more) → Same R y t m long → Same S y cs m more
same_on R S y cs t m long more e bad pass h k = elim (h k) [
  | inl same ↦ inl (bad same)
  | inr (newline_, hangs, after) ↦ inr (newline_, hangs_lift m cs t e hangs, λ n. pass (after n))
]

pub same_lift : {B : Type 0} (R : Result B Syntax → Type 0) (y cs t : List ℕ) (m : Syntax) (long : Result B Syntax) → EndsWith cs t → Same R y t m long → Same R y cs m long
same_lift R y cs t m long e h = same_on R R y cs t m long long e (λ same. same) (λ after. after) h

pub kept_lift : {A : Type 0} (R : Result (A × List ℕ) Syntax → Type 0) (F : List ℕ → Bool) (y cs t : List ℕ) (r long : Result (A × List ℕ) Syntax) → EndsWith cs t → Kept R F y t r long → Kept R F y cs r long
kept_lift R F y cs t (Ok p) long e h = h
kept_lift R F y cs t (Err m) long e h = same_lift R y cs t m long e h

pub turn_lift : {A : Type 0} (R : Result (Option A × List ℕ) Syntax → Type 0) (y cs t : List ℕ) (r long : Result (Option A × List ℕ) Syntax) → EndsWith cs t → KeptTurn R y t r long → KeptTurn R y cs r long
turn_lift R y cs t (Ok (None, rest)) long e h = h
turn_lift R y cs t (Ok (Some x, rest)) long e h = h
turn_lift R y cs t (Err m) long e h = same_lift R y cs t m long e h

pub same_bind : {A B : Type 0} (R : Result A Syntax → Type 0) (S : Result B Syntax → Type 0) (y cs : List ℕ) (m : Syntax) (long : Result A Syntax) (g : A → Result B Syntax) → ((q : Result A Syntax) → R q → S (q >>= g)) → Same R y cs m long → Same S y cs m (long >>= g)
same_bind {A = A} R S y cs m long g pass h = same_on R S y cs cs m long (long >>= g) (ends_self cs) (λ same. ap (λ (r : Result A Syntax). r >>= g) same) (pass long) h

pub bind_kept : {A B : Type 0} (R : Result (A × List ℕ) Syntax → Type 0) (S : Result (B × List ℕ) Syntax → Type 0) (F G : List ℕ → Bool) (y cs : List ℕ) (r long : Result (A × List ℕ) Syntax) (f g : A × List ℕ → Result (B × List ℕ) Syntax)
    → ((q : Result (A × List ℕ) Syntax) → R q → S (q >>= g)) → Kept R F y cs r long
    → ((p : A × List ℕ) → r ≡ Ok p → F p.1 ≡ true → (x : A) → Kept S G y cs (f p) (g (x, p.1 ++ y)))
    → ((p : A × List ℕ) → r ≡ Ok p → F p.1 ≡ false → Loose G (f p))
    → Kept S G y cs (r >>= f) (long >>= g)
bind_kept R S F G y cs (Err m) long f g pass h next loose = same_bind R S y cs m long g pass h
bind_kept {A = A} {B = B} R S F G y cs (Ok p) long f g pass h next loose = elim (cases_Bool (F p.1)) [
  | inl here ↦
      let (x, e) = h here in
      let P : Result (A × List ℕ) Syntax → Type 0 = λ l. Kept S G y cs (f p) (l >>= g) in
      subst P (sym e) (next p refl here x)
  | inr other ↦ loose_kept S G y cs (f p) (long >>= g) (loose p refl other)
]

-- a turn that gives what a reading gives
pub some_turn : {A : Type 0} (R : Result (A × List ℕ) Syntax → Type 0) (S : Result (Option A × List ℕ) Syntax → Type 0) (y cs : List ℕ) (r long : Result (A × List ℕ) Syntax)
    → ((q : Result (A × List ℕ) Syntax) → R q → S (q >>= λ x. Ok (Some x.0, x.1))) → Kept R firm y cs r long → KeptTurn S y cs (r >>= λ x. Ok (Some x.0, x.1)) (long >>= λ x. Ok (Some x.0, x.1))
some_turn R S y cs (Err m) long pass h = same_bind R S y cs m long _ pass h
some_turn {A = A} R S y cs (Ok p) long pass h = λ k. let (x, e) = h k in (x, ap (λ (r : Result (A × List ℕ) Syntax). r >>= λ x. Ok (Some x.0, x.1)) e)

pub record Goes {A : Type 0} (R : Result (Option A × List ℕ) Syntax → Type 0) (y : List ℕ) (step long : Reading Syntax (Option A)) : Type 0 where
  pub kept : (t : List ℕ) → KeptTurn R y t (step t) (long (t ++ y))
  -- where too little is left, nothing is left after a turn
  pub over : (t : List ℕ) → firm t ≡ false → Over (step t)
  pub forward : Forward step

-- ---- where too little is left

after_over : {A : Type 0} (next : Reading Syntax (List A)) (r : Result (Option A × List ℕ) Syntax) → Over r → ((x : A) (rest : List ℕ) → r ≡ Ok (Some x, rest) → Over (next rest)) → Over (r >>= λ t. after_turn next t.0 t.1)
after_over next (Ok (None, rest)) h k = h
after_over next (Ok (Some x, rest)) h k = front_over (x ∷ []) (next rest) (k x rest refl)
after_over next (Err m) h k = h

pub over_ok : {A : Type 0} (r : Result (A × List ℕ) Syntax) (p : A × List ℕ) → Over r → r ≡ Ok p → p.1 ≡ []
over_ok {A = A} r p h e = let P : Result (A × List ℕ) Syntax → Type 0 = λ q. Over q in (subst P e h)

module _ {A : Type 0} (R : Result (Option A × List ℕ) Syntax → Type 0) (y : List ℕ) (step long : Reading Syntax (Option A)) (l : Goes R y step long) where
  shrinks : Shrinks step
  shrinks = forward_shrinks step l.forward

  over_n : (n : ℕ) (t : List ℕ) → length t < n → firm t ≡ false → Over (turns step n t)
  unfolding turns
  over_n zero t a h = absurd (omega arith)
  over_n (suc n) t a h = after_over (turns step n) (step t) (l.over t h)
      (λ x rest e. over_n n rest (omega (arith, shorter step t x rest shrinks e)) (ap firm (over_ok (step t) (Some x, rest) (l.over t h) e)))

  pub turns_over : (t : List ℕ) → firm t ≡ false → Over (all_turns step t)
  unfolding all_turns
  turns_over t h = over_n (suc (length t)) t (omega arith) h

  -- ---- where enough is left

  -- T holds of all turns of a text where R holds of its first
  module _ (k : Shrinks long) (T : Result (List A × List ℕ) Syntax → Type 0) (last : (u : List ℕ) → R (long u) → T (all_turns long u)) (fronts : (front : List A) (q : Result (List A × List ℕ) Syntax) → T q → T (with_front front q)) where
    over_front : (cs : List ℕ) (x : A) (q more : Result (List A × List ℕ) Syntax) → Over q → Kept T some y cs (with_front (x ∷ []) q) more
    over_front cs x (Ok p) more h = λ e. true_not_false (some p.1) e (ap some h)
    over_front cs x (Err m) more h = λ e. true_not_false (is_open m) h e

    front_kept : (t cs : List ℕ) (x z : A) (q more : Result (List A × List ℕ) Syntax) → EndsWith cs t → Kept T some y t q more → Kept T some y cs (with_front (x ∷ []) q) (with_front (z ∷ []) more)
    front_kept t cs x z (Ok p) more e h = λ s. let (zs, same) = h s in (z ∷ zs, ap (with_front (z ∷ [])) same)
    front_kept t cs x z (Err m) more e h = same_on T T y cs t m more (with_front (z ∷ []) more) e (λ same. ap (with_front (z ∷ [])) same) (fronts (z ∷ []) more) h

    kept_of : (t : List ℕ) (r : Result (List A × List ℕ) Syntax) (more : Result (List A × List ℕ) Syntax) → all_turns step t ≡ r → Kept T some y t r more → Kept T some y t (all_turns step t) more
    kept_of t r more e h = let P : Result (List A × List ℕ) Syntax → Type 0 = λ q. Kept T some y t q more in subst P (sym e) h

    kept_turn : (t : List ℕ) → ((rest : List ℕ) → length rest < length t → Kept T some y rest (all_turns step rest) (all_turns long (rest ++ y)))
        → (r : Result (Option A × List ℕ) Syntax) → step t ≡ r → KeptTurn R y t r (long (t ++ y)) → Kept T some y t (all_turns step t) (all_turns long (t ++ y))
    kept_turn t ih (Err m) e h = kept_of t (Err m) _ (bad_turn step t m e) (same_on R T y t t m (long (t ++ y)) (all_turns long (t ++ y)) (ends_self t) (bad_turn long (t ++ y) m) (last (t ++ y)) h)
    kept_turn t ih (Ok (None, rest)) e h = kept_of t (Ok ([], rest)) _ (last_turn step t rest e) (λ s. ([], last_turn long (t ++ y) (rest ++ y) (h s)))
    kept_turn t ih (Ok (Some x, rest)) e h = kept_of t (with_front (x ∷ []) (all_turns step rest)) _ (one_turn step t x rest shrinks e) (elim (cases_Bool (firm rest)) [
      | inr other ↦ over_front t x (all_turns step rest) (all_turns long (t ++ y)) (turns_over rest other)
      | inl here ↦
          let (z, same) = h here in
          let moves = if_ok (λ u. Moves t u.0 u.1) (step t) (Some x, rest) (l.forward.each t) e in
          let P : Result (List A × List ℕ) Syntax → Type 0 = λ q. Kept T some y t (with_front (x ∷ []) (all_turns step rest)) q in
          subst P (sym (one_turn long (t ++ y) z (rest ++ y) k same)) (front_kept rest t x z (all_turns step rest) (all_turns long (rest ++ y)) moves.ends (ih rest (shorter step t x rest shrinks e)))
    ])

    kept_n : (n : ℕ) (t : List ℕ) → length t < n → Kept T some y t (all_turns step t) (all_turns long (t ++ y))
    kept_n zero t a = absurd (omega arith)
    kept_n (suc n) t a = kept_turn t (λ rest less. kept_n n rest (omega arith)) (step t) refl (l.kept t)

    pub turns_kept : (t : List ℕ) → Kept T some y t (all_turns step t) (all_turns long (t ++ y))
    turns_kept t = kept_n (suc (length t)) t (omega arith)
