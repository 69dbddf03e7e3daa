-- What is known in a dialect is known in the same one.
use Rattle.std.proofs.Common.{◌≡◌, Result, subst}
use Rattle.tcl_chars.specs.declared.numbers.Dialect.{Dialect}
use Rattle.tcl_meaning.specs.Completions.{Completion}
use Rattle.tcl_meaning.specs.Effects.{does}
use Rattle.tcl_meaning.specs.Pages.{owed}
use Rattle.tcl_meaning.specs.State.{State}
use Rattle.tcl_meaning.specs.Tasks.{Owes}
use Rattle.tcl_steps.specs.declared.step.Step.{Step as Asked}
use Rattle.tcl_vm.specs.Engines.{Views, Answers}
use Rattle.tcl_vm.specs.Machines.{Stops, Makes, Ends}
use Rattle.tcl_vm.specs.Turns.{Config}
use Rattle.tcl_vm.specs.declared.engine.Stop.{Stop}
use Rattle.tcl_vm.specs.declared.machine.Machine.{Machine}
use Rattle.tcl_vm.specs.declared.machine.Made.{Made}

pub owed_in : {A U S O L : Type 0} {d e : Dialect} (views : Views A U S O L) → e ≡ d → (o : Owes) (c : Completion) (s t : State) (r : Result (Asked S O L) Stop)
    → Answers views (does (owed e o c) s) r t → Answers views (does (owed d o c) s) r t
owed_in views same o c s t r h = subst (λ x. Answers views (does (owed x o c) s) r t) same h

pub makes_in : {A U S O L : Type 0} {d e : Dialect} (views : Views A U S O L) → e ≡ d → (r : Result (Made S O L) Stop) (c : Config) (m : Machine A U O) (s : State)
    → Makes e views r c m s → Makes d views r c m s
makes_in views same r c m s h = subst (λ x. Makes x views r c m s) same h

pub stops_in : {d e : Dialect} → e ≡ d → (x : Stop) (c : Config) (s : State) → Stops e x c s → Stops d x c s
stops_in same x c s h = subst (λ y. Stops y x c s) same h

pub ends_in : {d e : Dialect} → e ≡ d → (r : Result Completion Stop) (c c' : Config) → Ends e r c c' → Ends d r c c'
ends_in same r c c' h = subst (λ x. Ends x r c c') same h
