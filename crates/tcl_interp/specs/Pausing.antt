-- A run that pauses: what it shows, and how a part of it ends.
use Rattle.std.specs.Prelude.{◌≡◌, ℕ, Bool, true, false, List, Option, refl}
use Rattle.std.specs.Coded.{Coded, code_by, coded×}
use Rattle.tcl_chan.specs.declared.reading.Reader.{Reader}
use Rattle.tcl_chan.specs.declared.world.World.{World}
use Rattle.tcl_channels.specs.Shown.{channels_of}
use Rattle.tcl_engine.specs.contracts.rooms.Room as room
use Rattle.tcl_chars.specs.contracts.numbers.Dialect as dialect
use Rattle.tcl_chars.specs.declared.numbers.Dialect.{Dialect}
use Rattle.tcl_code.specs.Running.{Running}
use Rattle.tcl_engine.specs.Answered.{host_views}
use Rattle.tcl_engine.specs.contracts.undone.Undone as undone
use Rattle.tcl_engine.specs.declared.undone.Undone.{Undone}
use Rattle.tcl_frames.specs.Coding.{standing_code}
use Rattle.tcl_frames.specs.Standing.{Standing}
use Rattle.tcl_meaning.specs.Completions.{Completion, top}
use Rattle.tcl_meaning.specs.Frames.{frame_at}
use Rattle.tcl_meaning.specs.State.{Commands, Channels}
use Rattle.tcl_pages.specs.Texts.{Text}
use Rattle.tcl_steps.specs.contracts.step.Scope as scope
use Rattle.tcl_steps.specs.contracts.step.Owes as owes
use Rattle.tcl_steps.specs.contracts.step.Loop as loop_row
use Rattle.tcl_steps.specs.declared.step.Scope.{Scope}
use Rattle.tcl_steps.specs.declared.step.Owes.{Owes}
use Rattle.tcl_steps.specs.declared.step.Loop.{Loop}
use Rattle.tcl_steps.specs.Comes.{state_of}
use Rattle.tcl_table.specs.Coding.{commands_code}
use Rattle.tcl_vm.specs.contracts.machine.Paused as paused
use Rattle.tcl_vm.specs.Machines.{Begins, Halts, Pause, seen}
use Rattle.tcl_vm.specs.Turns.{Config, Fits, Over, Exited, BrokenOff}
use Rattle.tcl_vm.specs.Unwinding.{Unwinds}
use Rattle.tcl_interp.specs.Interp.{Shows, standing_at}
use Rattle.tcl_interp.specs.Outcome.{IsOutcome}
use Rattle.tcl_interp.specs.declared.host.HostFault.{HostFault}
use Rattle.tcl_interp.specs.declared.host.HostFault.TheVariants as host
use Rattle.tcl_interp.specs.declared.host.Outcome.{Outcome}
use Rattle.tcl_interp.specs.declared.host.Outcome.TheVariants as outcome
use Rattle.tcl_interp.specs.contracts.stage.Stage as stage_row
use Rattle.tcl_interp.specs.declared.stage.Stage.{Stage}
use Rattle.tcl_interp.specs.declared.stage.Stage.TheVariants as stage

-- the machine of a run, with all that it goes on from but what scripts keep, channels and units
abbrev pub Machine : Type 0
Machine = Pause Running Undone Scope Owes Loop

-- a run's dialect, its machine, what scripts keep, and whether it goes on, is over, or has failed
pub record RunShows : Type 0 where
  pub dialect : Dialect
  pub machine : Machine
  pub frames : Standing
  pub commands : Commands
  pub stage : Stage

abbrev pub machine_code : Coded Machine
machine_code = (paused.the_row room.the_row undone.the_row scope.the_row owes.the_row loop_row.the_row).coded

abbrev pub run_code : Coded RunShows
run_code = code_by (Dialect × (Machine × (Standing × (Commands × Stage)))) (coded× dialect.the_row.coded (coded× machine_code (coded× standing_code (coded× commands_code stage_row.the_row.coded)))) (λ r. (r.dialect, (r.machine, (r.frames, (r.commands, r.stage))))) (λ p. record { dialect = p.0; machine = p.1.0; frames = p.1.1.0; commands = p.1.1.1.0; stage = p.1.1.1.1 }) (λ _. refl)

-- a machine over what scripts keep and channels, with these units
abbrev pub machine_over : Machine → Standing → Commands → Channels → ℕ → Config
machine_over m frames commands channels units = seen host_views m (state_of commands channels units frames)

-- the machine of a run over channels, with these units
abbrev pub machine_at : RunShows → Channels → ℕ → Config
machine_at run channels units = machine_over run.machine run.frames run.commands channels units

-- ---- a run that can go on

-- whatever the channels are, and however many units there are
pub record CanGo (m : Machine) (frames : Standing) (commands : Commands) : Type 0 where
  pub fits : (channels : Channels) (units : ℕ) → Fits (machine_over m frames commands channels units)
  pub unwinds : (channels : Channels) (units : ℕ) → Unwinds (machine_over m frames commands channels units)

abbrev pub GoesOn : Stage → Type 0 → Type 0
GoesOn stage.Going can = can
GoesOn stage.Over can = Unit {0}
GoesOn stage.Failed can = Unit {0}

-- ---- where it begins

-- A run begins from what an interpreter shows: with its variables and commands, and at the beginning of the text.
pub record Starts (interp : Shows) (run : RunShows) (text : Text) : Type 0 where
  pub dialect : run.dialect ≡ interp.dialect
  pub frames : run.frames ≡ standing_at interp.globals
  pub commands : run.commands ≡ interp.commands
  pub stage : run.stage ≡ stage.Going
  pub begins : (channels : Channels) (units : ℕ) → Begins run.dialect text 1 (machine_at run channels units)

-- why none begins: the interpreter has failed, or memory was refused
abbrev pub RefusesStart : HostFault → Bool → Type 0
RefusesStart host.Failed failed = failed ≡ true
RefusesStart host.Memory failed = failed ≡ false
RefusesStart (host.Var fault) failed = ⊥

-- ---- how a part of it ends

module _ (dialect : Dialect) where
  -- The script has ended by itself, and that is told as its completion at the top.
  pub record Finishes (o : Outcome) (c d : Config) : Type 0 where
    pub completion : Completion
    pub over : Over dialect c completion d.state
    pub tells : IsOutcome o (top completion) d.state.units

  -- what a part comes to that began at c and left the machine at d
  abbrev pub PartEnds : Outcome → Config → Config → Type 0
  PartEnds (outcome.Done code result options left) c d = Finishes (outcome.Done code result options left) c d
  PartEnds outcome.Budget c d = Halts dialect c d
  PartEnds (outcome.Exit status) c d = Exited dialect c status d.state
  PartEnds outcome.Memory c d = BrokenOff dialect c d.state
  PartEnds outcome.Io c d = BrokenOff dialect c d.state
  PartEnds outcome.Failed c d = ⊥
  PartEnds outcome.Over c d = ⊥

-- where a run is then
abbrev pub stage_after : Outcome → Stage
stage_after (outcome.Done code result options left) = stage.Over
stage_after outcome.Budget = stage.Going
stage_after (outcome.Exit status) = stage.Over
stage_after outcome.Memory = stage.Failed
stage_after outcome.Io = stage.Failed
stage_after outcome.Failed = stage.Failed
stage_after outcome.Over = stage.Over

-- ---- what it leaves

abbrev pub stage_fails : Stage → Bool
stage_fails stage.Going = false
stage_fails stage.Over = false
stage_fails stage.Failed = true

-- what an interpreter shows to which a run comes back: the global frame and the commands
abbrev pub stopped : RunShows → Shows
stopped run = record { dialect = run.dialect; globals = frame_at run.frames.frames 0; commands = run.commands; failed = stage_fails run.stage }

-- ---- over devices, which tell what is to come, and what was written, by the first three

module _ {R W E : Type 0} (to_come : R → Option (List ℕ)) (outs : W → Option (List ℕ)) (errs : E → Option (List ℕ)) where
  -- the machine of a run over a world, with these units
  abbrev pub machine_in : RunShows → World R W E Reader → ℕ → Config
  machine_in run w units = machine_at run (channels_of to_come outs errs w) units
