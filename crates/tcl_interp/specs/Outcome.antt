-- How an evaluation ended, as a host sees it.
use Rattle.std.specs.Prelude.{◌≡◌, ℕ, ◌+◌, Bool, true, false, Result, Ok, Err}
use Rattle.tcl_names.specs.Named.{text_of}
use Rattle.tcl_meaning.specs.Agreement.{Agrees, IsPart}
use Rattle.tcl_meaning.specs.Completions.{Completion, code_number, options_text, top}
use Rattle.tcl_meaning.specs.Effects.{Got, Gives, Broke, Exits}
use Rattle.tcl_meaning.specs.State.{State, Remains}
use Rattle.tcl_vm.specs.declared.engine.Stop.{Stop}
use Rattle.tcl_vm.specs.declared.engine.Stop.TheVariants as stop
use Rattle.tcl_interp.specs.Interp.{store_at}
use Rattle.tcl_interp.specs.declared.host.Outcome.{Outcome}
use Rattle.tcl_interp.specs.declared.host.Outcome.TheVariants as outcome

-- the interpreter has failed after this
abbrev pub outcome_fails : Outcome → Bool
outcome_fails (outcome.Done code result options left) = false
outcome_fails outcome.Budget = false
outcome_fails (outcome.Exit status) = false
outcome_fails outcome.Memory = true
outcome_fails outcome.Io = true
outcome_fails outcome.Failed = false
outcome_fails outcome.Over = false

-- a device failed
abbrev pub outcome_is_io : Outcome → Bool
outcome_is_io (outcome.Done code result options left) = false
outcome_is_io outcome.Budget = false
outcome_is_io (outcome.Exit status) = false
outcome_is_io outcome.Memory = false
outcome_is_io outcome.Io = true
outcome_is_io outcome.Failed = false
outcome_is_io outcome.Over = false

-- the units that are left, as it is told
abbrev pub units_left : Outcome → ℕ
units_left (outcome.Done code result options left) = left
units_left outcome.Budget = 0
units_left (outcome.Exit status) = 0
units_left outcome.Memory = 0
units_left outcome.Io = 0
units_left outcome.Failed = 0
units_left outcome.Over = 0

-- the same outcome, with n more units left
abbrev pub more_left : ℕ → Outcome → Outcome
more_left n (outcome.Done code result options left) = outcome.Done code result options (left + n)
more_left n outcome.Budget = outcome.Budget
more_left n (outcome.Exit status) = outcome.Exit status
more_left n outcome.Memory = outcome.Memory
more_left n outcome.Io = outcome.Io
more_left n outcome.Failed = outcome.Failed
more_left n outcome.Over = outcome.Over

-- the outcome of a completion of the definition, with n units left; memory may be refused in its place
abbrev pub IsOutcome : Outcome → Completion → ℕ → Type 0
IsOutcome (outcome.Done code result options left) c n =
    (code ≡ code_number c.code) × (text_of result ≡ c.result) × (text_of options ≡ options_text c) × (left ≡ n)
IsOutcome outcome.Memory c n = Unit {0}
IsOutcome outcome.Budget c n = ⊥
IsOutcome (outcome.Exit status) c n = ⊥
IsOutcome outcome.Io c n = ⊥
IsOutcome outcome.Failed c n = ⊥
IsOutcome outcome.Over c n = ⊥

-- the outcome of a script that ended so, or stopped
abbrev pub IsOutcomeOf : Outcome → Result Completion Stop → ℕ → Type 0
IsOutcomeOf o (Ok c) n = IsOutcome o (top c) n
IsOutcomeOf o (Err stop.Budget) n = o ≡ outcome.Budget
IsOutcomeOf o (Err (stop.Exit status)) n = o ≡ outcome.Exit status
IsOutcomeOf o (Err stop.Memory) n = o ≡ outcome.Memory
IsOutcomeOf o (Err stop.Io) n = o ≡ outcome.Io

-- the state that is left, with these units
abbrev pub state_left : Remains → ℕ → State
state_left r units = record { store = store_at r.globals r.commands; channels = r.channels; units = units }

-- what a run that ended by itself says
pub record IsDone (o : Outcome) (got : Got Completion) (r : Remains) : Type 0 where
  pub completion : Completion
  pub left : ℕ
  pub agrees : Agrees got (Gives completion (state_left r left))
  pub tells : IsOutcome o completion left

-- The outcome and what is left are those of the run; where memory was refused or a device failed, what was put out is a part
-- of what the run puts out.
abbrev pub Ends : Outcome → Got Completion → Remains → Type 0
Ends (outcome.Done code result options left) got r = IsDone (outcome.Done code result options left) got r
Ends outcome.Budget got r = Agrees got (Broke r)
Ends (outcome.Exit status) got r = Agrees got (Exits status r)
Ends outcome.Memory got r = IsPart r.channels got
Ends outcome.Io got r = IsPart r.channels got
Ends outcome.Failed got r = ⊥
Ends outcome.Over got r = ⊥
