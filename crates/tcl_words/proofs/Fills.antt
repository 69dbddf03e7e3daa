-- What an open text is filled up with, and what is then left.
use Rattle.std.proofs.Common.{◌≡◌, ℕ, List, [], ◌∷◌, ◌++◌, Option, Some, None, Result, Ok, Err, refl, sym, ap, subst}
use Rattle.tcl_chars.specs.Reading.{◌>>=◌, Reading, with_front, all_turns}
use Rattle.tcl_chars.proofs.Turns.{Shrinks, one_turn, last_turn}
use Rattle.tcl_words.specs.declared.fault.Syntax.{Syntax}

-- something is read, and this is left
abbrev pub Leaves : {A : Type 0} → List ℕ → Result (A × List ℕ) Syntax → Type 0
Leaves z (Ok p) = p.1 ≡ z
Leaves z (Err m) = ⊥

abbrev pub LeavesSome : {A : Type 0} → List ℕ → Result (Option A × List ℕ) Syntax → Type 0
LeavesSome z (Ok (Some x, rest)) = rest ≡ z
LeavesSome z (Ok (None, rest)) = ⊥
LeavesSome z (Err m) = ⊥

-- there is a text behind which all is left, whatever follows
abbrev pub Fills : {B : Type 0} → (ℕ → List ℕ → Result (B × List ℕ) Syntax) → Type 0
Fills F = (more : List ℕ) × ((big : ℕ) (z : List ℕ) → Leaves z (F big (more ++ z)))

abbrev pub FillsSome : {B : Type 0} → (ℕ → List ℕ → Result (Option B × List ℕ) Syntax) → Type 0
FillsSome F = (more : List ℕ) × ((big : ℕ) (z : List ℕ) → LeavesSome z (F big (more ++ z)))

pub leaves_bind : {A B : Type 0} (z u : List ℕ) (r : Result (A × List ℕ) Syntax) (f : A × List ℕ → Result (B × List ℕ) Syntax) → Leaves z r → ((x : A) → Leaves u (f (x, z))) → Leaves u (r >>= f)
leaves_bind {A = A} {B = B} z u (Ok p) f h k = let P : List ℕ → Type 0 = λ t. Leaves u (f (p.0, t)) in subst P (sym h) (k p.0)
leaves_bind z u (Err m) f h k = absurd h

pub some_bind : {A : Type 0} (z : List ℕ) (r : Result (A × List ℕ) Syntax) → Leaves z r → LeavesSome z (r >>= λ x. Ok (Some x.0, x.1))
some_bind z (Ok p) h = h
some_bind z (Err m) h = absurd h

pub leaves_ok : {A : Type 0} (z : List ℕ) (r : Result (A × List ℕ) Syntax) → Leaves z r → (x : A) × (r ≡ Ok (x, z))
leaves_ok z (Ok p) h = (p.0, ap (λ (t : List ℕ). Ok (p.0, t)) h)
leaves_ok z (Err m) h = absurd h

pub some_ok : {A : Type 0} (z : List ℕ) (r : Result (Option A × List ℕ) Syntax) → LeavesSome z r → (x : A) × (r ≡ Ok (Some x, z))
some_ok z (Ok (Some x, rest)) h = (x, ap (λ (t : List ℕ). Ok (Some x, t)) h)
some_ok z (Ok (None, rest)) h = absurd h
some_ok z (Err m) h = absurd h

front_leaves : {A : Type 0} (front : List A) (z : List ℕ) (r : Result (List A × List ℕ) Syntax) → Leaves z r → Leaves z (with_front front r)
front_leaves front z (Ok p) h = h
front_leaves front z (Err m) h = absurd h

-- one turn more
pub turn_then : {A : Type 0} (step : Reading Syntax (Option A)) (t z : List ℕ) (x : A) (rest : List ℕ) → Shrinks step → step t ≡ Ok (Some x, rest) → Leaves z (all_turns step rest) → Leaves z (all_turns step t)
turn_then {A = A} step t z x rest h e more =
    let P : Result (List A × List ℕ) Syntax → Type 0 = λ q. Leaves z q in
    subst P (sym (one_turn step t x rest h e)) (front_leaves (x ∷ []) z (all_turns step rest) more)

pub turn_last : {A : Type 0} (step : Reading Syntax (Option A)) (t rest : List ℕ) → step t ≡ Ok (None, rest) → Leaves rest (all_turns step t)
turn_last {A = A} step t rest e = let P : Result (List A × List ℕ) Syntax → Type 0 = λ q. Leaves rest q in subst P (sym (last_turn step t rest e)) refl

-- an answer that is no fault has none before it
pub bind_err : {A B : Type 0} (r : Result A Syntax) (h : A → B) (f : Syntax) → (r >>= λ x. Ok (h x)) ≡ Err f → r ≡ Err f
bind_err (Ok x) h f e = absurd cc
bind_err (Err m) h f e = cc

-- ---- before a inert character

abbrev pub Unmoved : {A : Type 0} → List ℕ → Result (A × List ℕ) Syntax → Result (A × List ℕ) Syntax → Type 0
Unmoved w (Ok p) long = Leaves (p.1 ++ w) long
Unmoved w (Err m) long = Unit {0}

abbrev pub UnmovedTurn : {A : Type 0} → List ℕ → Result (Option A × List ℕ) Syntax → Result (Option A × List ℕ) Syntax → Type 0
UnmovedTurn w (Ok (None, rest)) long = long ≡ Ok (None, rest ++ w)
UnmovedTurn w (Ok (Some x, rest)) long = LeavesSome (rest ++ w) long
UnmovedTurn w (Err m) long = Unit {0}

pub unmoved_bind : {A B : Type 0} (w : List ℕ) (r long : Result (A × List ℕ) Syntax) (f g : A × List ℕ → Result (B × List ℕ) Syntax) → Unmoved w r long → ((p : A × List ℕ) (x : A) → Unmoved w (f p) (g (x, p.1 ++ w))) → Unmoved w (r >>= f) (long >>= g)
unmoved_bind w (Err m) long f g h k = tt
unmoved_bind {A = A} {B = B} w (Ok p) long f g h k =
    let (x, e) = leaves_ok (p.1 ++ w) long h in
    let P : Result (A × List ℕ) Syntax → Type 0 = λ l. Unmoved w (f p) (l >>= g) in
    subst P (sym e) (k p x)

pub unmoved_some : {A : Type 0} (w : List ℕ) (r long : Result (A × List ℕ) Syntax) → Unmoved w r long → UnmovedTurn w (r >>= λ x. Ok (Some x.0, x.1)) (long >>= λ x. Ok (Some x.0, x.1))
unmoved_some w (Err m) long h = tt
unmoved_some w (Ok p) long h = some_bind (p.1 ++ w) long h
