-- What a command's code has asked for is what the definition asks for.
use Rattle.std.specs.Prelude.{◌≡◌, Option, Some, None, Result, Ok, Err}
use Rattle.std.specs.declared.alloc.AllocError.{AllocError}
use Rattle.tcl_meaning.specs.Asking.{Asks}
use Rattle.tcl_meaning.specs.Effects.{Give, Exit}
use Rattle.tcl_meaning.specs.Tasks as tasks
use Rattle.tcl_meaning.specs.Value.{Has, Fails}
use Rattle.tcl_steps.specs.Views.{step_of}
use Rattle.tcl_steps.specs.declared.fault.Fault.{Fault}
use Rattle.tcl_steps.specs.declared.fault.Fault.TheVariants as fault
use Rattle.tcl_steps.specs.declared.step.Step.{Step}
use Rattle.tcl_steps.specs.declared.step.Scope.{Scope}
use Rattle.tcl_steps.specs.declared.step.Owes.{Owes}
use Rattle.tcl_steps.specs.declared.step.Loop.{Loop}

-- What is asked for where nothing is looked at and nothing done first. An error is the command's completion.
abbrev pub at_once : Asks → Option tasks.Step
at_once (Give (Has step)) = Some step
at_once (Give (Fails c)) = Some (tasks.Done c)
at_once _ = None

-- the definition asks for this at once; memory may be wanting
abbrev pub IsAsked : Result (Step Scope Owes Loop) AllocError → Asks → Type 0
IsAsked (Ok step) asks = at_once asks ≡ Some (step_of step)
IsAsked (Err e) asks = Unit {0}

-- the definition asks for this at once, or it ends the run with this status
abbrev pub IsAskedOrExits : Result (Step Scope Owes Loop) Fault → Asks → Type 0
IsAskedOrExits (Ok step) asks = at_once asks ≡ Some (step_of step)
IsAskedOrExits (Err (fault.Exit n)) asks = asks ≡ Exit n
IsAskedOrExits (Err fault.Memory) asks = Unit {0}
IsAskedOrExits (Err fault.Io) asks = ⊥
