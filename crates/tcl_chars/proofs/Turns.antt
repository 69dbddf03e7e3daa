-- Turn after turn: the bound never shows, and what a loop keeps.
use Rattle.std.proofs.Common.{◌≡◌, ℕ, zero, suc, ◌<◌, ◌≤◌, List, [], ◌∷◌, ◌++◌, length, Option, Some, None, Result, Ok, Err, refl, sym, ap, subst, ◌∙◌, append_assoc, arith}
use Rattle.std.proofs.lemmas.List.{append-nil}
use Rattle.std.specs.Prelude.{IfOk, IfSome, IsSome}
use Rattle.tcl_chars.specs.declared.fault.ReadFault.{ReadFault}
use Rattle.tcl_chars.specs.declared.fault.ReadFault.TheVariants as fault
use Rattle.tcl_chars.specs.Reading.{◌>>=◌, Reading, Fails, with_front, after_turn, turns, all_turns}

-- a turn leaves no more than it was given, and less where it gives something
abbrev pub Turned : {A : Type 0} → ℕ → Option A → List ℕ → Type 0
Turned n None rest = length rest ≤ n
Turned n (Some x) rest = length rest < n

pub record Shrinks {A E : Type 0} (step : Reading E (Option A)) : Type 0 where
  pub each : (cs : List ℕ) → IfOk (step cs) (λ t. Turned (length cs) t.0 t.1)

pub shorter : {A E : Type 0} (step : Reading E (Option A)) (cs : List ℕ) (x : A) (rest : List ℕ) → Shrinks step → step cs ≡ Ok (Some x, rest) → length rest < length cs
shorter {A = A} {E = E} step cs x rest h e = let P : Result (Option A × List ℕ) E → Type 0 = λ r. IfOk r (λ t. Turned (length cs) t.0 t.1) in subst P e (h.each cs)

same_turn : {A E : Type 0} (step : Reading E (Option A)) (f g : Reading E (List A)) (cs : List ℕ) (r : Result (Option A × List ℕ) E) → step cs ≡ r
    → ((x : A) (rest : List ℕ) → step cs ≡ Ok (Some x, rest) → f rest ≡ g rest)
    → (r >>= λ t. after_turn f t.0 t.1) ≡ (r >>= λ t. after_turn g t.0 t.1)
same_turn step f g cs (Err m) e same = refl
same_turn step f g cs (Ok (None, rest)) e same = refl
same_turn step f g cs (Ok (Some x, rest)) e same = ap (with_front (x ∷ [])) (same x rest e)

pub enough_turns : {A E : Type 0} (step : Reading E (Option A)) (m n : ℕ) (cs : List ℕ) → Shrinks step → length cs < m → length cs < n → turns step m cs ≡ turns step n cs
unfolding turns
enough_turns step zero n cs h a b = absurd (omega arith)
enough_turns step (suc m) zero cs h a b = absurd (omega arith)
enough_turns step (suc m) (suc n) cs h a b =
    same_turn step (turns step m) (turns step n) cs (step cs) refl
    (λ x rest e. let less = shorter step cs x rest h e in enough_turns step m n rest h (omega arith) (omega arith))

pub last_turn : {A E : Type 0} (step : Reading E (Option A)) (cs rest : List ℕ) → step cs ≡ Ok (None, rest) → all_turns step cs ≡ Ok ([], rest)
unfolding turns all_turns
last_turn step cs rest e = rw e refl

pub bad_turn : {A E : Type 0} (step : Reading E (Option A)) (cs : List ℕ) (m : E) → step cs ≡ Err m → all_turns step cs ≡ Err m
unfolding turns all_turns
bad_turn step cs m e = rw e refl

pub one_turn : {A E : Type 0} (step : Reading E (Option A)) (cs : List ℕ) (x : A) (rest : List ℕ) → Shrinks step → step cs ≡ Ok (Some x, rest) → all_turns step cs ≡ with_front (x ∷ []) (all_turns step rest)
unfolding turns all_turns
one_turn step cs x rest h e =
    let less = shorter step cs x rest h e in
    rw e (ap (with_front (x ∷ [])) (enough_turns step (length cs) (suc (length rest)) rest h less (omega arith)))

-- what is left after some turns
front_le : {A E : Type 0} (front : List A) (r : Result (List A × List ℕ) E) (n m : ℕ) → IfOk r (λ x. length x.1 ≤ m) → m ≤ n → IfOk (with_front front r) (λ x. length x.1 ≤ n)
front_le front (Ok x) n m h le = omega arith
front_le front (Err e) n m h le = tt

le_after : {A E : Type 0} (step : Reading E (Option A)) (n : ℕ) (r : Result (Option A × List ℕ) E) (next : Reading E (List A)) → IfOk r (λ t. Turned n t.0 t.1)
    → ((rest : List ℕ) → IfOk (next rest) (λ x. length x.1 ≤ length rest)) → IfOk (r >>= λ t. after_turn next t.0 t.1) (λ x. length x.1 ≤ n)
le_after step n (Err m) next h k = tt
le_after step n (Ok (None, rest)) next h k = h
le_after step n (Ok (Some x, rest)) next h k = front_le (x ∷ []) (next rest) n (length rest) (k rest) (omega arith)

front_lt : {A E : Type 0} (front : List A) (r : Result (List A × List ℕ) E) (n m : ℕ) → IfOk r (λ x. length x.1 ≤ m) → m < n → IfOk (with_front front r) (λ x. length x.1 < n)
front_lt front (Ok x) n m h le = omega arith
front_lt front (Err e) n m h le = tt

pub turns_le_n : {A E : Type 0} (step : Reading E (Option A)) (n : ℕ) (cs : List ℕ) → Shrinks step → IfOk (turns step n cs) (λ x. length x.1 ≤ length cs)
unfolding turns
turns_le_n step zero cs h = omega arith
turns_le_n step (suc n) cs h = le_after step (length cs) (step cs) (turns step n) (h.each cs) (λ rest. turns_le_n step n rest h)

pub turns_le : {A E : Type 0} (step : Reading E (Option A)) (cs : List ℕ) → Shrinks step → IfOk (all_turns step cs) (λ x. length x.1 ≤ length cs)
unfolding all_turns
turns_le step cs h = turns_le_n step (suc (length cs)) cs h

-- and after at least one
lt_after : {A E : Type 0} (step : Reading E (Option A)) (n : ℕ) (r : Result (Option A × List ℕ) E) (next : Reading E (List A)) → IfOk r (λ t. Turned n t.0 t.1) → IfOk r (λ t. IsSome t.0)
    → ((rest : List ℕ) → IfOk (next rest) (λ x. length x.1 ≤ length rest)) → IfOk (r >>= λ t. after_turn next t.0 t.1) (λ x. length x.1 < n)
lt_after step n (Err m) next h s k = tt
lt_after step n (Ok (None, rest)) next h s k = absurd cc
lt_after step n (Ok (Some x, rest)) next h s k = front_lt (x ∷ []) (next rest) n (length rest) (k rest) h

pub turns_lt : {A E : Type 0} (step : Reading E (Option A)) (cs : List ℕ) → Shrinks step → IfOk (step cs) (λ t. IsSome t.0) → IfOk (all_turns step cs) (λ x. length x.1 < length cs)
unfolding all_turns turns
turns_lt step cs h s = lt_after step (length cs) (step cs) (turns step (length cs)) (h.each cs) s (λ rest. turns_le_n step (length cs) rest h)

-- ---- loops that keep what they read

regroup : {A E : Type 0} (front : List A) (x : A) (r : Result (List A × List ℕ) E) → with_front front (with_front (x ∷ []) r) ≡ with_front (front ++ x ∷ []) r
regroup front x (Ok p) = ap (λ (xs : List _). Ok (xs, p.1)) (simp append_assoc)
regroup front x (Err m) = refl

pub with_no_front : {A E : Type 0} (r : Result (List A × List ℕ) E) → with_front [] r ≡ r
with_no_front (Ok p) = refl
with_no_front (Err m) = refl

pub goes_on : {A E : Type 0} (step : Reading E (Option A)) (front : List A) (cs : List ℕ) (x : A) (rest : List ℕ) (total : Result (List A × List ℕ) E) → Shrinks step → step cs ≡ Ok (Some x, rest)
    → with_front front (all_turns step cs) ≡ total → with_front (front ++ x ∷ []) (all_turns step rest) ≡ total
goes_on step front cs x rest total h e so_far = sym (regroup front x (all_turns step rest)) ∙ ap (with_front front) (sym (one_turn step cs x rest h e)) ∙ so_far

pub is_done : {A E : Type 0} (step : Reading E (Option A)) (front : List A) (cs rest : List ℕ) (total : Result (List A × List ℕ) E) → step cs ≡ Ok (None, rest)
    → with_front front (all_turns step cs) ≡ total → total ≡ Ok (front, rest)
is_done step front cs rest total e so_far = sym so_far ∙ ap (with_front front) (last_turn step cs rest e) ∙ simp append-nil

pub ends : {A E : Type 0} (step : Reading E (Option A)) (err : ReadFault E) (front : List A) (cs : List ℕ) (total : Result (List A × List ℕ) E) → Fails err (step cs)
    → with_front front (all_turns step cs) ≡ total → Fails err total
ends step fault.Memory front cs total h so_far = tt
ends step (fault.Bad m) front cs total h so_far = sym so_far ∙ ap (with_front front) (bad_turn step cs m h)

-- ---- loops that keep only where they are

abbrev pub only_rest : {A E : Type 0} → Result (List A × List ℕ) E → Result (List ℕ) E
only_rest r = r >>= λ found. Ok found.1

front_rest : {A E : Type 0} (front : List A) (r : Result (List A × List ℕ) E) → only_rest (with_front front r) ≡ only_rest r
front_rest front (Ok x) = refl
front_rest front (Err m) = refl

pub scan_goes_on : {A E : Type 0} (step : Reading E (Option A)) (cs : List ℕ) (x : A) (rest : List ℕ) → Shrinks step → step cs ≡ Ok (Some x, rest)
    → only_rest (all_turns step cs) ≡ only_rest (all_turns step rest)
scan_goes_on step cs x rest h e = ap only_rest (one_turn step cs x rest h e) ∙ front_rest (x ∷ []) (all_turns step rest)

pub scan_done : {A E : Type 0} (step : Reading E (Option A)) (cs rest : List ℕ) → step cs ≡ Ok (None, rest) → only_rest (all_turns step cs) ≡ Ok rest
scan_done step cs rest e = ap only_rest (last_turn step cs rest e)

pub ends_scan : {A E : Type 0} (step : Reading E (Option A)) (err : ReadFault E) (cs : List ℕ) (total : Result (List ℕ) E) → Fails err (step cs)
    → only_rest (all_turns step cs) ≡ total → Fails err total
ends_scan step fault.Memory cs total h so_far = tt
ends_scan step (fault.Bad m) cs total h so_far = sym so_far ∙ ap only_rest (bad_turn step cs m h)

-- ---- what each turn gives holds of all that the turns give

-- a list of items that P holds of is one that Q holds of
pub record Gathers {A : Type 0} (P : A → Type 0) (Q : List A → Type 0) : Type 0 where
  pub empty : Q []
  pub more : (x : A) (xs : List A) → P x → Q xs → Q (x ∷ xs)

front_gathers : {A E : Type 0} (P : A → Type 0) (Q : List A → Type 0) (g : Gathers P Q) (x : A) (r : Result (List A × List ℕ) E) → P x → IfOk r (λ xs. Q xs.0) → IfOk (with_front (x ∷ []) r) (λ xs. Q xs.0)
front_gathers P Q g x (Ok xs) h k = g.more x xs.0 h k
front_gathers P Q g x (Err m) h k = tt

turn_gathers : {A E : Type 0} (P : A → Type 0) (Q : List A → Type 0) (g : Gathers P Q) (r : Result (Option A × List ℕ) E) (next : Reading E (List A)) → IfOk r (λ t. IfSome t.0 P)
    → ((rest : List ℕ) → IfOk (next rest) (λ xs. Q xs.0)) → IfOk (r >>= λ t. after_turn next t.0 t.1) (λ xs. Q xs.0)
turn_gathers P Q g (Err m) next h k = tt
turn_gathers P Q g (Ok (None, rest)) next h k = g.empty
turn_gathers P Q g (Ok (Some x, rest)) next h k = front_gathers P Q g x (next rest) h (k rest)

turns_gather_n : {A E : Type 0} (P : A → Type 0) (Q : List A → Type 0) (g : Gathers P Q) (step : Reading E (Option A)) (n : ℕ) (cs : List ℕ) → ((here : List ℕ) → IfOk (step here) (λ t. IfSome t.0 P)) → IfOk (turns step n cs) (λ xs. Q xs.0)
unfolding turns
turns_gather_n P Q g step zero cs each = g.empty
turns_gather_n P Q g step (suc n) cs each = turn_gathers P Q g (step cs) (turns step n) (each cs) (λ rest. turns_gather_n P Q g step n rest each)

pub turns_gather : {A E : Type 0} (P : A → Type 0) (Q : List A → Type 0) (g : Gathers P Q) (step : Reading E (Option A)) (cs : List ℕ) → ((here : List ℕ) → IfOk (step here) (λ t. IfSome t.0 P)) → IfOk (all_turns step cs) (λ xs. Q xs.0)
unfolding all_turns
turns_gather P Q g step cs each = turns_gather_n P Q g step (suc (length cs)) cs each
