-- More units change nothing but how far a run comes.
use Rattle.std.proofs.Common.{◌≡◌, ℕ, zero, suc, ◌+◌, ◌<◌, ◌≤◌, refl, sym, ap, subst, arith, Option, Some, None}
use Rattle.tcl_pages.specs.Texts.{Text}
use Rattle.tcl_meaning.specs.Completions.{Completion}
use Rattle.tcl_meaning.specs.Input.{Want, input_taken}
use Rattle.tcl_meaning.specs.Links.{link}
use Rattle.tcl_meaning.specs.State.{State, with_units}
use Rattle.tcl_meaning.specs.Effects.{Scope, Here, At, Within, Prog, Give, Look, Make, Link, Write, Take, HasEnded, Exit, Call, Got, Gives, Broke, Exits, Untold, on_got, made, linked, wrote, took, take_from, entered, returned, exec, Plan, Now, Costs, paid, start, level, outcome}
use Rattle.tcl_meaning.specs.Beginnings.{Goes, more, Longer}
use Rattle.tcl_meaning.proofs.Onward.{outputs_trans}
use Rattle.tcl_meaning.proofs.Runs.{IsOnward, exec_goes, paid_goes, level_goes}

-- with b more units one way to run tasks comes to what the other one comes to
abbrev IsLonger : {T : Type 0} → ℕ → (T → State → Got Completion) → (T → State → Got Completion) → ℕ → Type 0
IsLonger {T} b f g n = (task : T) (s : State) → s.units < n → Longer b (f task s) (g task (more b s))

entered_more : (b : ℕ) (scope : Scope) (s : State) → entered scope (more b s) ≡ more b (entered scope s)
entered_more b Here s = refl
entered_more b (At i) s = refl
entered_more b (Within f) s = refl

returned_more : (b : ℕ) (scope : Scope) (s t : State) → returned scope (more b s) (more b t) ≡ more b (returned scope s t)
returned_more b Here s t = refl
returned_more b (At i) s t = refl
returned_more b (Within f) s t = refl

-- a run that goes on behind one of which a unit was wanting
on_got_longer : {A B : Type 0} (b : ℕ) (r q : Got A) (f g : A → State → Got B) → Longer b r q → ((a : A) (t : State) → r ≡ Gives a t → Longer b (f a t) (g a (more b t))) → ((a : A) (t : State) → Goes t (g a t)) → Longer b (on_got r f) (on_got q g)
on_got_longer b (Gives a s) q f g h k o = subst (λ x. Longer b (f a s) (on_got x g)) (sym h) (k a s refl)
on_got_longer b (Exits n x) q f g h k o = ap (λ y. on_got y g) h
on_got_longer b (Untold x) q f g h k o = ap (λ y. on_got y g) h
on_got_longer b (Broke x) (Gives a s) f g h k o = outputs_trans h (o a s).adds
on_got_longer b (Broke x) (Broke y) f g h k o = h
on_got_longer b (Broke x) (Exits n y) f g h k o = h
on_got_longer b (Broke x) (Untold y) f g h k o = h

take_from_longer : {A : Type 0} (b : ℕ) (want : Want) (i : Option Text) (s : State) (f g : Text → State → Got A) → ((t : Text) (u : State) → u.units ≡ s.units → Longer b (f t u) (g t (more b u))) → Longer b (take_from want i s f) (take_from want i (more b s) g)
take_from_longer b want None s f g k = refl
take_from_longer b want (Some cs) s f g k = k (input_taken want cs) (took want cs s) refl

units_given : {A : Type 0} (u : ℕ) (s : State) (r : Got A) (a : A) (t : State) → Goes s r → r ≡ Gives a t → t.units ≤ s.units
units_given u s r a t h e = (subst (λ x. Goes s x) e h).spends

entered_below : (n : ℕ) (scope : Scope) (s : State) → s.units < n → (entered scope s).units < n
entered_below n Here s h = h
entered_below n (At i) s h = h
entered_below n (Within x) s h = h

returned_below : (n : ℕ) (scope : Scope) (s t : State) → s.units < n → t.units ≤ (entered scope s).units → (returned scope s t).units < n
returned_below n Here s t h i = omega arith
returned_below n (At j) s t h i = omega arith
returned_below n (Within x) s t h i = omega arith

returned_onward : {A : Type 0} (b : ℕ) (scope : Scope) (s t : State) (r : Got A) → Goes (returned scope (more b s) t) r → Goes t r
returned_onward b Here s t r h = h
returned_onward b (At i) s t r h = h
returned_onward b (Within x) s t r h = h

module _ {T : Type 0} (b : ℕ) (f g : T → State → Got Completion) (of : IsOnward f) (og : IsOnward g) where
  exec_longer : (n : ℕ) → IsLonger b f g n → {A : Type 0} (p : Prog T A) (s : State) → s.units < n → Longer b (exec f p s) (exec g p (more b s))
  exec_longer n e (Give a) s h = refl
  exec_longer n e (Look q) s h = exec_longer n e (q s.store) s h
  exec_longer n e (Make ch p) s h = exec_longer n e p (made ch s) h
  exec_longer n e (Link level other local q) s h = exec_longer n e (q (link s.store level other local).0) (linked level other local s) h
  exec_longer n e (Write o t p) s h = exec_longer n e p (wrote o t s) h
  exec_longer n e (Take want q) s h = take_from_longer b want s.channels.input s (λ t after. exec f (q t) after) (λ t after. exec g (q t) after) (λ t u same. exec_longer n e (q t) u (omega arith))
  exec_longer n e (HasEnded q) s h = exec_longer n e (q s.channels.met_end) s h
  exec_longer n e (Exit m) s h = refl
  exec_longer n e (Call scope task q) s h =
      on_got_longer b (f task (entered scope s)) (g task (entered scope (more b s))) (λ c t. exec f (q c) (returned scope s t)) (λ c t. exec g (q c) (returned scope (more b s) t))
      (subst (λ x. Longer b (f task (entered scope s)) (g task x)) (sym (entered_more b scope s)) (e task (entered scope s) (entered_below n scope s h)))
      (λ c t same. subst (λ x. Longer b (exec f (q c) (returned scope s t)) (exec g (q c) x)) (sym (returned_more b scope s t)) (exec_longer n e (q c) (returned scope s t) (returned_below n scope s t h (units_given b (entered scope s) (f task (entered scope s)) c t (of task (entered scope s)) same))))
      (λ c t. returned_onward b scope s t (exec g (q c) (returned scope (more b s) t)) (exec_goes g og (q c) (returned scope (more b s) t)))

  paid_longer : (n : ℕ) → IsLonger b f g n → (p : Prog T Completion) (s : State) (m j : ℕ) → m < suc n → j ≡ (more b s).units → j ≡ m + b → Longer b (paid f p s m) (paid g p (more b s) j)
  paid_longer n e p s zero j h u i = (paid_goes g og p (more b s) j u).adds
  paid_longer n e p s (suc m) zero h u i = absurd (omega arith)
  paid_longer n e p s (suc m) (suc j) h u i =
      let same : m + b ≡ j = omega arith in
      subst (λ x. Longer b (exec f p (with_units m s)) (exec g p (with_units x s))) same (exec_longer n e p (with_units m s) (omega arith))

  start_longer : (n : ℕ) → IsLonger b f g n → (p : Plan T) (s : State) → s.units < suc n → Longer b (start f p s) (start g p (more b s))
  start_longer n e (Now c) s h = refl
  start_longer n e (Costs p) s h = paid_longer n e p s s.units (s.units + b) h refl refl

module _ {T : Type 0} (plan : T → Plan T) where
  level_longer : (b k j : ℕ) (task : T) (s : State) → s.units < k → s.units + b < j → Longer b (level plan k task s) (level plan j task (more b s))
  level_longer b zero j task s h i = absurd (omega arith)
  level_longer b (suc k) zero task s h i = absurd (omega arith)
  level_longer b (suc k) (suc j) task s h i =
      start_longer b (level plan k) (level plan j) (level_goes plan k) (level_goes plan j) s.units
      (λ t v less. level_longer b k j t v (omega arith) (omega arith)) (plan task) s (omega arith)

  pub outcome_longer : (b : ℕ) (task : T) (s : State) → Longer b (outcome plan task s) (outcome plan task (more b s))
  unfolding outcome
  outcome_longer b task s = level_longer b (suc s.units) (suc (s.units + b)) task s (omega arith) (omega arith)
