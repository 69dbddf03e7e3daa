-- How commands end.
use Rattle.std.specs.Prelude.{◌≡◌, Result, Ok, Err}
use Rattle.tcl_chars.specs.Texts.{text_of}
use Rattle.tcl_chars.specs.declared.fault.Fault.{Fault}
use Rattle.tcl_chars.specs.declared.fault.Fault.TheVariants as fault
use Rattle.tcl_frames.specs.Standing.{Standing}
use Rattle.tcl_meaning.specs.Asking.{Asks, value_step}
use Rattle.tcl_meaning.specs.Completions.{Completion, failure}
use Rattle.tcl_meaning.specs.Effects.{Plain, Give, ◌>>=◌}
use Rattle.tcl_meaning.specs.State.{Store}
use Rattle.tcl_meaning.specs.Tasks.{Step, Done}
use Rattle.tcl_meaning.specs.Value.{Value, Has, Fails}
use Rattle.tcl_steps.specs.Views.{step_of}
use Rattle.tcl_steps.specs.declared.step.Step.{Step as Asked}
use Rattle.tcl_steps.specs.declared.step.Scope.{Scope}
use Rattle.tcl_steps.specs.declared.step.Owes.{Owes}
use Rattle.tcl_steps.specs.declared.step.Loop.{Loop}
use Rattle.tcl_steps.specs.Comes.{Comes, BecomesIn}
use Rattle.tcl_steps.specs.declared.stop.Stop.{Stop}
use Rattle.tcl_steps.specs.declared.stop.Stop.TheVariants as stop

-- A part of a command has the value that its program gives, or stops with the script's error that it gives; or memory was
-- refused.
abbrev pub Ends : {A : Type 0} → Plain (Value A) → Standing → Result A Stop → Standing → Type 0
Ends p before (Ok a) after = Comes p before (Has a) after
Ends p before (Err (stop.Error c)) after = Comes p before (Fails c) after
Ends p before (Err stop.Memory) after = Unit {0}

-- the first step of a page: what it asks for, or that it is done
abbrev pub first_step : Asks → Plain Step
first_step page = page >>= λ v. Give (value_step v)

-- The page is done with this completion, normal or the script's error; or memory was refused.
abbrev pub Does : {E : Type 0} → Asks → Standing → Result Completion E → Standing → Type 0
Does page before (Ok c) after = Comes (first_step page) before (Done c) after
Does page before (Err refused) after = Unit {0}

-- the same completion, of the value or of the error
abbrev pub Closes : {E : Type 0} → Result Completion Stop → Result Completion E → Type 0
Closes (Ok c) closed = closed ≡ Ok c
Closes (Err (stop.Error c)) closed = closed ≡ Ok c
Closes (Err stop.Memory) (Ok c) = ⊥
Closes (Err stop.Memory) (Err refused) = Unit {0}

-- A command, where an error stops it.
abbrev pub EndsDone : Asks → Standing → Result Completion Stop → Standing → Type 0
EndsDone page before (Ok c) after = Comes page before (Has (Done c)) after
EndsDone page before (Err (stop.Error c)) after = Comes page before (Fails c) after
EndsDone page before (Err stop.Memory) after = Unit {0}

-- The page asks for this step; or memory was refused.
abbrev pub DoesAsk : {E : Type 0} → Asks → Standing → Result (Asked Scope Owes Loop) E → Standing → Type 0
DoesAsk page before (Ok step) after = Comes (first_step page) before (step_of step) after
DoesAsk page before (Err refused) after = Unit {0}

-- The page is done with this completion, over what scripts keep as a whole; or memory was refused.
abbrev pub DoesIn : {E : Type 0} → Asks → Store → Result Completion E → Store → Type 0
DoesIn page before (Ok c) after = BecomesIn (first_step page) before (Give (Done c)) after
DoesIn page before (Err refused) after = Unit {0}

-- A part that changes nothing gives this value, or stops with the script's error; or memory was refused.
abbrev pub Gives : {A : Type 0} → Plain (Value A) → Result A Stop → Type 0
Gives p (Ok a) = p ≡ Give (Has a)
Gives p (Err (stop.Error c)) = p ≡ Give (Fails c)
Gives p (Err stop.Memory) = Unit {0}

-- the script's error that a fault is
abbrev pub stop_of : Fault → Stop
stop_of (fault.Error message) = stop.Error (failure (text_of message))
stop_of fault.Memory = stop.Memory
