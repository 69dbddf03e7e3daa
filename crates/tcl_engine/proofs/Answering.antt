-- What commands do, each by the form of its contract, is what the machine wants of them.
use Rattle.std.proofs.Common.{◌≡◌, ℕ, ◌≤◌, length, refl, sym, ◌∙◌, subst, inl, arith, Some, Result, Ok, Err, IfOk}
use Rattle.std.specs.FinMap as map
use Rattle.std.specs.declared.alloc.AllocError.{AllocError}
use Rattle.tcl_activation.proofs.Pages.{from_first}
use Rattle.tcl_chars.specs.declared.numbers.Dialect.{Dialect}
use Rattle.tcl_channels.specs.Works.{Works}
use Rattle.tcl_steps.specs.Asked.{at_once, IsAsked, IsAskedOrExits}
use Rattle.tcl_frames.specs.Standing.{Standing}
use Rattle.tcl_meaning.specs.Agreement.{Agrees, IsPart}
use Rattle.tcl_meaning.specs.Asking.{Asks, questions, questions_owed, value_step}
use Rattle.tcl_meaning.specs.Beginnings.{channels_of, OutputsBegin, Goes}
use Rattle.tcl_meaning.specs.Completions.{Completion}
use Rattle.tcl_meaning.specs.Effects.{Plain, Give, Look, Make, Link, Write, Take, HasEnded, Exit, Call, ◌>>=◌, Got, Gives, Broke, Exits, Untold, on_got, nothing_runs, does}
use Rattle.tcl_meaning.specs.State.{Commands, Channels, State, Store, remains}
use Rattle.tcl_meaning.specs.Tasks as tasks
use Rattle.tcl_meaning.specs.Value.{Value, Has, Fails}
use Rattle.tcl_meaning.specs.Pages.{owed}
use Rattle.tcl_meaning.proofs.Onward.{outputs_same}
use Rattle.tcl_meaning.proofs.Questions.{owed_asks}
use Rattle.tcl_meaning.proofs.Runs.{exec_bind, exec_goes}
use Rattle.tcl_steps.specs.Views as views
use Rattle.tcl_steps.specs.declared.step.Step.{Step}
use Rattle.tcl_steps.specs.declared.step.Step.TheVariants as step
use Rattle.tcl_steps.specs.declared.step.Scope.{Scope}
use Rattle.tcl_steps.specs.declared.step.Owes.{Owes}
use Rattle.tcl_steps.specs.declared.step.Loop.{Loop}
use Rattle.tcl_steps.specs.declared.fault.Fault.{Fault}
use Rattle.tcl_steps.specs.declared.fault.Fault.TheVariants as fault
use Rattle.tcl_vm.specs.Engines.{step_of, stop_by}
use Rattle.tcl_vm.specs.Turns.{Onward}
use Rattle.tcl_vm.specs.Unwinding.{SameFrames}
use Rattle.tcl_vm.specs.declared.engine.Stop.{Stop}
use Rattle.tcl_vm.specs.declared.engine.Stop.TheVariants as stop
use Rattle.tcl_steps.proofs.FrameCounts.{given_count}
use Rattle.tcl_steps.specs.Comes.{state_of}
use Rattle.tcl_steps.specs.Ends.{Does, DoesAsk, DoesIn}
use Rattle.tcl_engine.specs.Answered.{host_views, Answered}
use Rattle.tcl_engine.proofs.Scoping.{no_channels}

abbrev Asked : Type 0
Asked = Step Scope Owes Loop

same_step : (a : Asked) → views.step_of a ≡ step_of host_views a
same_step (step.Done c) = refl
same_step (step.Run scope t owes) = refl
same_step (step.Evaluate t owes) = refl
same_step (step.Pay turn) = refl

-- ---- what every program leaves

nothing_goes : (task : ⊥) (s : State) → Goes s (nothing_runs task s)
nothing_goes task s = absurd task

given_onward : {A : Type 0} (p : Plain A) (s t : State) (a : A) → does p s ≡ Gives a t → Onward s t
given_onward p s t a e =
    let g = subst (λ r. Goes s r) e (exec_goes nothing_runs nothing_goes p s) in
    record { spends = g.spends; adds = g.adds }

given_frames : {A : Type 0} (p : Plain A) (s t : State) (a : A) → does p s ≡ Gives a t → SameFrames s t
given_frames p s t a e = record { count = given_count p s t a e }

-- what stood on the outputs is a beginning of what a program puts out
begun : {A : Type 0} (c : Channels) (got : Got A) → OutputsBegin c (channels_of got) → IsPart c got
begun c (Gives a s) h = h
begun c (Broke r) h = h
begun c (Exits n r) h = h
begun c (Untold d) h = inl h

-- ---- by their contracts

-- the value that a program gives
agreed : {A : Type 0} (got : Got A) (a : A) (t : State) → got ≡ Gives a t → Agrees got (Gives a t)
agreed got a t e = subst (λ r. Agrees r (Gives a t)) (sym e) refl

pub given_answers : (page : Asks) (v : Value tasks.Step) (a : Asked) (s t : State) → does page s ≡ Gives v t → t.units ≡ s.units → value_step v ≡ views.step_of a → Answered page s (Ok a) t
given_answers page v a s t e free is = record {
  answers = (v, is ∙ same_step a, agreed (does page s) v t e);
  onward = given_onward page s t v e;
  free = free;
  frames = given_frames page s t v e;
}

-- nothing was put out, and the command was broken off
pub broken_answers : (page : Asks) (s t : State) → t.channels ≡ s.channels → t.units ≡ s.units → Answered page s (Err stop.Memory) t
broken_answers page s t same free = record {
  answers = subst (λ c. IsPart c (does page s)) (sym same) (begun s.channels (does page s) (exec_goes nothing_runs nothing_goes page s).adds);
  onward = record { spends = omega (free, arith); adds = subst (λ c. OutputsBegin s.channels c) (sym same) (outputs_same s.channels) };
  free = tt;
  frames = tt;
}

-- it asks at once
pub asked_answers : (page : Asks) (a : Asked) (s : State) → at_once page ≡ Some (views.step_of a) → Answered page s (Ok a) s
asked_answers (Give (Has x)) a s e = given_answers (Give (Has x)) (Has x) a s s refl refl cc
asked_answers (Give (Fails c)) a s e = given_answers (Give (Fails c)) (Fails c) a s s refl refl cc
asked_answers (Look g) a s e = absurd cc
asked_answers (Make ch p) a s e = absurd cc
asked_answers (Link level other local g) a s e = absurd cc
asked_answers (Write o t p) a s e = absurd cc
asked_answers (Take want g) a s e = absurd cc
asked_answers (HasEnded g) a s e = absurd cc
asked_answers (Exit n) a s e = absurd cc
asked_answers (Call scope task g) a s e = absurd task

pub first_answers : (page : Asks) (a : Asked) (s t : State) → does (page >>= λ v. Give (value_step v)) s ≡ Gives (views.step_of a) t → t.units ≡ s.units → Answered page s (Ok a) t
first_answers page a s t e free =
    let f = from_first (does page s) (views.step_of a) t (sym (exec_bind nothing_runs page (λ v. Give (value_step v)) s) ∙ e) in
    given_answers page f.0 a s t f.1 free f.2

-- it ends the run
pub exit_answers : (page : Asks) (n : ℕ) (s : State) → page ≡ Exit n → Answered page s (Err (stop.Exit n)) s
exit_answers page n s e = record {
  answers = subst (λ p. Agrees (does p s) (Exits n (remains s))) (sym e) refl;
  onward = record { spends = omega arith; adds = outputs_same s.channels };
  free = tt;
  frames = tt;
}

-- ---- by what calls returned

pub broken_as : (result : Result Asked Stop) (page : Asks) (s t : State) → result ≡ Err stop.Memory → t.channels ≡ s.channels → t.units ≡ s.units → Answered page s result t
broken_as result page s t is same free = subst (λ r. Answered page s r t) (sym is) (broken_answers page s t same free)

pub asked_as : (r : Result Asked AllocError) (a : Asked) (page : Asks) (s : State) → r ≡ Ok a → IsAsked r page → Answered page s (Ok a) s
asked_as r a page s is asks = asked_answers page a s (subst (λ x. IsAsked x page) is asks)

pub asked_over_as : (r : Result Asked AllocError) (a : Asked) (page : Asks) (f g : Standing) → r ≡ Ok a → DoesAsk page f r g
    → (cs : Commands) (channels : Channels) (units : ℕ) → Answered page (state_of cs channels units f) (Ok a) (state_of cs channels units g)
asked_over_as r a page f g is does cs channels units =
    first_answers page a (state_of cs channels units f) (state_of cs channels units g) ((subst (λ x. DoesAsk page f x g) is does).same cs channels units) refl

pub done_in_as : (r : Result Completion AllocError) (c : Completion) (page : Asks) (s t : Store) → r ≡ Ok c → DoesIn page s r t
    → (channels : Channels) (units : ℕ) → Answered page (record { store = s; channels = channels; units = units }) (Ok (step.Done c)) (record { store = t; channels = channels; units = units })
done_in_as r c page s t is does channels units =
    first_answers page (step.Done c) (record { store = s; channels = channels; units = units }) (record { store = t; channels = channels; units = units }) ((subst (λ x. DoesIn page s x t) is does).same channels units) refl

-- over channels
works_given : (page : Asks) (got : Got (Value tasks.Step)) (x : tasks.Step) (t : State) → Agrees (on_got got (λ v u. does (Give (value_step v)) u)) (Gives x t) → (v : Value tasks.Step) × (value_step v ≡ x) × Agrees got (Gives v t)
works_given page (Gives v u) x t e = (v, cc, cc)
works_given page (Broke r) x t e = absurd cc
works_given page (Exits n r) x t e = absurd cc
works_given page (Untold c) x t e = (Has x, refl, e)

pub works_answers : (page : Asks) (c : Completion) (s t : State) → Agrees (does (page >>= λ v. Give (value_step v)) s) (Gives (tasks.Done c) t) → OutputsBegin s.channels t.channels → t.units ≡ s.units → SameFrames s t → Answered page s (Ok (step.Done c)) t
works_answers page c s t agrees adds free frames =
    let w = works_given page (does page s) (tasks.Done c) t (subst (λ r. Agrees r (Gives (tasks.Done c) t)) (exec_bind nothing_runs page (λ v. Give (value_step v)) s) agrees) in
    record {
      answers = (w.0, w.1, w.2);
      onward = record { spends = omega (free, arith); adds = adds };
      free = free;
      frames = frames;
    }

pub worked_as : (r : Result Completion Fault) (c : Completion) (page : Asks) (s t : State) → r ≡ Ok c → Works page s r t → OutputsBegin s.channels t.channels → t.units ≡ s.units → IfOk r (λ _. SameFrames s t) → Answered page s (Ok (step.Done c)) t
worked_as r c page s t is works adds free frames = works_answers page c s t (subst (λ x. Works page s x t) is works) adds free (subst (λ x. IfOk x (λ _. SameFrames s t)) is frames)

pub faulted_as : (result : Result Asked Stop) (r : Result Completion Fault) (f : Fault) (page : Asks) (s t : State) → result ≡ Err (stop_by f) → r ≡ Err f → Works page s r t → OutputsBegin s.channels t.channels → t.units ≡ s.units → Answered page s result t
faulted_as result r (fault.Exit n) page s t is was works adds free = absurd (subst (λ x. Works page s x t) was works)
faulted_as result r fault.Memory page s t is was works adds free = subst (λ x. Answered page s x t) (sym is) (record { answers = subst (λ x. Works page s x t) was works; onward = record { spends = omega (free, arith); adds = adds }; free = tt; frames = tt })
faulted_as result r fault.Io page s t is was works adds free = subst (λ x. Answered page s x t) (sym is) (record { answers = subst (λ x. Works page s x t) was works; onward = record { spends = omega (free, arith); adds = adds }; free = tt; frames = tt })

pub exited_as : (r : Result Asked Fault) (a : Asked) (page : Asks) (s : State) → r ≡ Ok a → IsAskedOrExits r page → Answered page s (Ok a) s
exited_as r a page s is asks = asked_answers page a s (subst (λ x. IsAskedOrExits x page) is asks)

pub exits_as : (result : Result Asked Stop) (r : Result Asked Fault) (f : Fault) (page : Asks) (s : State) → result ≡ Err (stop_by f) → r ≡ Err f → IsAskedOrExits r page → Answered page s result s
exits_as result r (fault.Exit n) page s is was asks = subst (λ x. Answered page s x s) (sym is) (exit_answers page n s (subst (λ x. IsAskedOrExits x page) was asks))
exits_as result r fault.Memory page s is was asks = subst (λ x. Answered page s x s) (sym is) (broken_answers page s s refl refl)
exits_as result r fault.Io page s is was asks = absurd (subst (λ x. IsAskedOrExits x page) was asks)

-- ---- over frames

-- a command that is done asks for nothing more
pub done_asks : (r : Result Completion AllocError) (c : Completion) (page : Asks) (f g : Standing) → r ≡ Ok c → Does page f r g → DoesAsk {E = AllocError} page f (Ok (step.Done c)) g
done_asks r c page f g is does = subst (λ x. Does page f x g) is does

-- what is owed asks no more often than it owes
pub owed_fewer : (dialect : Dialect) (o : tasks.Owes) (c : Completion) (r : Result Asked Stop) (f g : Standing) → DoesAsk (owed dialect o c) f r g → IfOk r (λ a. questions (step_of host_views a) ≤ questions_owed o)
owed_fewer dialect o c (Ok a) f g does_ask =
    let s = state_of map.empty no_channels 0 f in
    let t = state_of map.empty no_channels 0 g in
    let v = from_first (does (owed dialect o c) s) (views.step_of a) t (sym (exec_bind nothing_runs (owed dialect o c) (λ v. Give (value_step v)) s) ∙ does_ask.same map.empty no_channels 0) in
    subst (λ x. questions x ≤ questions_owed o) (v.2 ∙ same_step a) (owed_asks dialect o c s t v.0 v.1)
owed_fewer dialect o c (Err e) f g does_ask = tt

-- as many frames stand
pub same_count : {E : Type 0} (r : Result Completion E) (s t : State) → IfOk r (λ _. length t.store.frames ≡ length s.store.frames) → IfOk r (λ _. SameFrames s t)
same_count (Ok c) s t h = record { count = h }
same_count (Err e) s t h = tt
