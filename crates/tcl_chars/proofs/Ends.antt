-- Ends of a text, and turns that go forward through one.
use Rattle.std.proofs.Common.{◌≡◌, ℕ, zero, suc, ◌<◌, ◌≤◌, Bool, true, false, cond, List, [], ◌∷◌, ◌++◌, length, take, drop, Option, Some, None, Result, Ok, Err, sym, ap, ◌∙◌, subst, arith, append_assoc, length-append, refl}
use Rattle.std.specs.Prelude.{IfOk, IsSome}
use Rattle.std.proofs.lemmas.List.{take-append-drop}
use Rattle.tcl_chars.specs.Place.{EndsWith, tail}
use Rattle.tcl_chars.specs.Reading.{◌>>=◌, Reading, with_front, after_turn, turns, all_turns}
use Rattle.tcl_chars.proofs.Turns.{Turned, Shrinks, turns_lt}

-- ---- ends of a text

-- the rest ends the text, and is shorter
pub record IsPast (cs rest : List ℕ) : Type 0 where
  pub ends : EndsWith cs rest
  pub less : length rest < length cs

pub ends_self : (cs : List ℕ) → EndsWith cs cs
ends_self cs = record { front = []; joined = refl }

pub ends_more : (c : ℕ) (cs rest : List ℕ) → EndsWith cs rest → EndsWith (c ∷ cs) rest
ends_more c cs rest e = record { front = c ∷ e.front; joined = ap (λ t. c ∷ t) e.joined }

pub ends_trans : (a b c : List ℕ) → EndsWith a b → EndsWith b c → EndsWith a c
ends_trans a b c e f = record { front = e.front ++ f.front; joined = e.joined ∙ ap (λ t. e.front ++ t) f.joined ∙ sym (append_assoc e.front f.front c) }

pub ends_le : (cs rest : List ℕ) → EndsWith cs rest → length rest ≤ length cs
ends_le cs rest e = omega (arith, ap length e.joined, length-append e.front rest)

pub ends_tail : (cs : List ℕ) → EndsWith cs (tail cs)
ends_tail [] = ends_self []
ends_tail (c ∷ cs) = ends_more c cs cs (ends_self cs)

pub ends_drop : (n : ℕ) (cs : List ℕ) → EndsWith cs (drop n cs)
ends_drop n cs = record { front = take n cs; joined = sym (take-append-drop n cs) }

pub past_more : (c : ℕ) (cs rest : List ℕ) → EndsWith cs rest → IsPast (c ∷ cs) rest
past_more c cs rest e = record { ends = ends_more c cs rest e; less = omega (arith, ends_le cs rest e) }

pub past_then : (a b c : List ℕ) → IsPast a b → EndsWith b c → IsPast a c
past_then a b c p e = record { ends = ends_trans a b c p.ends e; less = omega (arith, p.less, ends_le b c e) }

pub then_past : (a b c : List ℕ) → EndsWith a b → IsPast b c → IsPast a c
then_past a b c e p = record { ends = ends_trans a b c e p.ends; less = omega (arith, p.less, ends_le a b e) }

pub past_drop : (n c : ℕ) (cs : List ℕ) → 1 ≤ n → IsPast (c ∷ cs) (drop n (c ∷ cs))
past_drop zero c cs h = absurd (omega arith)
past_drop (suc n) c cs h = past_more c cs (drop n cs) (ends_drop n cs)

-- ---- choices and steps

pub if_cond : {A : Type 0} (P : A → Type 0) (b : Bool) (x y : A) → P x → P y → P (cond b x y)
if_cond P true x y h k = h
if_cond P false x y h k = k

pub if_bind : {A B E : Type 0} (P : A → Type 0) (Q : B → Type 0) (r : Result A E) (f : A → Result B E) → IfOk r P → ((x : A) → P x → IfOk (f x) Q) → IfOk (r >>= f) Q
if_bind P Q (Ok x) f h k = k x h
if_bind P Q (Err m) f h k = tt

pub if_weak : {A E : Type 0} (P Q : A → Type 0) (r : Result A E) → IfOk r P → ((x : A) → P x → Q x) → IfOk r Q
if_weak P Q (Ok x) h k = k x h
if_weak P Q (Err m) h k = tt

pub if_both : {A E : Type 0} (P Q R : A → Type 0) (r : Result A E) → IfOk r P → IfOk r Q → ((x : A) → P x → Q x → R x) → IfOk r R
if_both P Q R (Ok x) h k f = f x h k
if_both P Q R (Err m) h k f = tt

pub if_ok : {A E : Type 0} (P : A → Type 0) (r : Result A E) (x : A) → IfOk r P → r ≡ Ok x → P x
if_ok {E = E} P r x h e = let Q : Result _ E → Type 0 = λ s. IfOk s P in subst Q e h

pub always : {A E : Type 0} (r : Result A E) → IfOk r (λ x. Unit {0})
always (Ok x) = tt
always (Err m) = tt

abbrev pub Ends : {A E : Type 0} → List ℕ → Result (A × List ℕ) E → Type 0
Ends cs r = IfOk r (λ x. EndsWith cs x.1)

abbrev pub Past : {A E : Type 0} → List ℕ → Result (A × List ℕ) E → Type 0
Past cs r = IfOk r (λ x. IsPast cs x.1)

-- a turn leaves an end of the text, and a shorter one where it gives something
abbrev pub Moves : {A : Type 0} → List ℕ → Option A → List ℕ → Type 0
Moves cs None rest = EndsWith cs rest
Moves cs (Some x) rest = IsPast cs rest

pub record Forward {A E : Type 0} (step : Reading E (Option A)) : Type 0 where
  pub each : (cs : List ℕ) → IfOk (step cs) (λ t. Moves cs t.0 t.1)

pub turned : {A : Type 0} (cs : List ℕ) (x : Option A) (rest : List ℕ) → Moves cs x rest → Turned (length cs) x rest
turned cs None rest h = ends_le cs rest h
turned cs (Some x) rest h = h.less

pub forward_shrinks : {A E : Type 0} (step : Reading E (Option A)) → Forward step → Shrinks step
forward_shrinks step f = record { each = λ cs. if_weak (λ t. Moves cs t.0 t.1) (λ t. Turned (length cs) t.0 t.1) (step cs) (f.each cs) (λ t h. turned cs t.0 t.1 h) }

pub front_ends : {A E : Type 0} (front : List A) (cs rest : List ℕ) (q : Result (List A × List ℕ) E) → EndsWith cs rest → Ends rest q → Ends cs (with_front front q)
front_ends front cs rest (Ok x) e h = ends_trans cs rest x.1 e h
front_ends front cs rest (Err m) e h = tt

pub ends_after : {A E : Type 0} (cs : List ℕ) (r : Result (Option A × List ℕ) E) (next : Reading E (List A)) → IfOk r (λ t. Moves cs t.0 t.1)
    → ((rest : List ℕ) → Ends rest (next rest)) → Ends cs (r >>= λ t. after_turn next t.0 t.1)
ends_after cs (Err m) next h k = tt
ends_after cs (Ok (None, rest)) next h k = h
ends_after cs (Ok (Some x, rest)) next h k = front_ends (x ∷ []) cs rest (next rest) h.ends (k rest)

pub turns_end_n : {A E : Type 0} (step : Reading E (Option A)) (n : ℕ) (cs : List ℕ) → Forward step → Ends cs (turns step n cs)
unfolding turns
turns_end_n step zero cs f = ends_self cs
turns_end_n step (suc n) cs f = ends_after cs (step cs) (turns step n) (f.each cs) (λ rest. turns_end_n step n rest f)

pub turns_end : {A E : Type 0} (step : Reading E (Option A)) (cs : List ℕ) → Forward step → Ends cs (all_turns step cs)
unfolding all_turns
turns_end step cs f = turns_end_n step (suc (length cs)) cs f

pub turns_past : {A E : Type 0} (step : Reading E (Option A)) (cs : List ℕ) → Forward step → IfOk (step cs) (λ t. IsSome t.0) → Past cs (all_turns step cs)
turns_past step cs f s = if_both (λ x. EndsWith cs x.1) (λ x. length x.1 < length cs) (λ x. IsPast cs x.1) (all_turns step cs) (turns_end step cs f) (turns_lt step cs (forward_shrinks step f) s) (λ x e l. record { ends = e; less = l })
