-- What a command's code has asked for at once, over frames.
use Rattle.std.proofs.Common.{◌≡◌, Some, Result, Ok, Err, sym, ap, ◌∙◌}
use Rattle.std.specs.declared.alloc.AllocError.{AllocError}
use Rattle.tcl_meaning.proofs.Runs.{exec_bind}
use Rattle.tcl_meaning.specs.Asking.{Asks, value_step}
use Rattle.tcl_meaning.specs.Effects.{Plain, Give, Look, Make, Link, Write, Take, HasEnded, Exit, Call, Gives, does, nothing_runs, on_got, ◌>>=◌}
use Rattle.tcl_meaning.specs.State.{State}
use Rattle.tcl_meaning.specs.Tasks as tasks
use Rattle.tcl_meaning.specs.Value.{Has, Fails}
use Rattle.tcl_frames.specs.Standing.{Standing}
use Rattle.tcl_steps.proofs.Endings.{gives_on, then_becomes}
use Rattle.tcl_steps.specs.Asked.{IsAsked, at_once}
use Rattle.tcl_steps.specs.Comes.{Becomes, Comes, state_of}
use Rattle.tcl_steps.specs.Ends.{first_step, DoesAsk}
use Rattle.tcl_steps.specs.Views as views
use Rattle.tcl_steps.specs.declared.step.Step.{Step}
use Rattle.tcl_steps.specs.declared.step.Scope.{Scope}
use Rattle.tcl_steps.specs.declared.step.Owes.{Owes}
use Rattle.tcl_steps.specs.declared.step.Loop.{Loop}

pub asked_leaves : (page : Asks) (x : tasks.Step) → at_once page ≡ Some x → (s : State) → does (first_step page) s ≡ Gives x s
asked_leaves (Give (Has y)) x e s = cc
asked_leaves (Give (Fails c)) x e s = cc
asked_leaves (Look g) x e s = absurd cc
asked_leaves (Make ch p) x e s = absurd cc
asked_leaves (Link level other local g) x e s = absurd cc
asked_leaves (Write o t p) x e s = absurd cc
asked_leaves (Take want g) x e s = absurd cc
asked_leaves (HasEnded g) x e s = absurd cc
asked_leaves (Exit n) x e s = absurd cc
asked_leaves (Call scope task g) x e s = absurd task

pub asks_over : (r : Result (Step Scope Owes Loop) AllocError) (page : Asks) (f : Standing) → IsAsked r page → DoesAsk page f r f
asks_over (Ok a) page f asks = record { same = λ cs channels units. asked_leaves page (views.step_of a) asks (state_of cs channels units f) }
asks_over (Err e) page f asks = tt

module _ {A : Type 0} (p : Plain A) (k : A → Asks) (f g : Standing) (a : A) where
  first_on : Comes p f a g → Becomes (first_step (p >>= k)) f (first_step (k a)) g
  first_on h = record {
    same = λ cs channels units.
        exec_bind nothing_runs (p >>= k) (λ v. Give (value_step v)) (state_of cs channels units f)
        ∙ ap (λ r. on_got r (λ v u. does (Give (value_step v)) u)) ((gives_on p k f g a h).same cs channels units)
        ∙ sym (exec_bind nothing_runs (k a) (λ v. Give (value_step v)) (state_of cs channels units g));
  }

  -- a page does what is asked for once the program before it has given its value
  pub asks_on : {E : Type 0} (r : Result (Step Scope Owes Loop) E) → Comes p f a g → DoesAsk (k a) g r g → DoesAsk (p >>= k) f r g
  asks_on (Ok step) h does_ask = then_becomes (first_on h) does_ask
  asks_on (Err e) h does_ask = tt
