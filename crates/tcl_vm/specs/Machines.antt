-- The machine's own values as the definition sees them, and what a turn makes of them.
use Rattle.std.specs.Prelude.{◌≡◌, ℕ, List, [], ◌∷◌, Result, Ok, Err}
use Rattle.tcl_chars.specs.declared.numbers.Dialect.{Dialect}
use Rattle.tcl_meaning.specs.Agreement.{Agrees, IsPart}
use Rattle.tcl_meaning.specs.Completions.{Completion}
use Rattle.tcl_meaning.specs.Effects.{Got, Gives, Broke, Exits}
use Rattle.tcl_meaning.specs.State.{State, remains}
use Rattle.tcl_pages.specs.Texts.{Text}
use Rattle.tcl_code.specs.Instructions.{Instruction}
use Rattle.tcl_code.specs.Means.{Means}
use Rattle.tcl_code.specs.Running.{begun}
use Rattle.tcl_vm.specs.Engines.{Views, completion_of, step_of}
use Rattle.tcl_vm.specs.Standing as standing
use Rattle.tcl_vm.specs.Turns as turns
use Rattle.tcl_vm.specs.Turns.{Config, Kind, On, Begun, Used, Fits, Later, Turned, Over, Pauses, Exited, BrokenOff}
use Rattle.tcl_vm.specs.Unwinding.{Unwinds}
use Rattle.tcl_vm.specs.declared.engine.Stop.{Stop}
use Rattle.tcl_vm.specs.declared.engine.Stop.TheVariants as stop
use Rattle.tcl_vm.specs.declared.machine.Waiting.{Waiting}
use Rattle.tcl_vm.specs.declared.machine.Machine.{Machine}
use Rattle.tcl_vm.specs.declared.machine.Turn.{Turn}
use Rattle.tcl_vm.specs.declared.machine.Turn.TheVariants as turn
use Rattle.tcl_vm.specs.declared.machine.Made.{Made}
use Rattle.tcl_vm.specs.declared.machine.Made.TheVariants as made

-- a paused machine: what it does next, the code that runs, those that wait for it (innermost last), and how many commands are paid
-- for in the code that runs and haven't been called yet
pub record Pause (A U S O L : Type 0) : Type 0 where
  pub next : Turn S O L
  pub current : A
  pub callers : List (Waiting A U O)
  pub paid : ℕ

-- a machine before this turn, when it's paused there
abbrev pub pause_of : {A U S O L : Type 0} → Turn S O L → Machine A U O → Pause A U S O L
pause_of t m = record { next = t; current = m.current; callers = m.callers.items; paid = m.paid }

-- a machine at the beginning of a code, with none that wait
abbrev pub first_of : {A U S O L : Type 0} → A → Pause A U S O L
first_of a = record { next = turn.Next; current = a; callers = []; paid = 0 }

module _ {A U S O L : Type 0} (views : Views A U S O L) where
  abbrev pub waiting_of : Waiting A U O → standing.Waiting
  waiting_of w = record { owes = views.owes w.owes; undone = views.undone w.undone; caller = views.running w.caller; paid = w.paid }

  abbrev pub waitings : List (Waiting A U O) → List standing.Waiting
  waitings [] = []
  waitings (w ∷ ws) = waiting_of w ∷ waitings ws

  abbrev pub machine_of : Machine A U O → standing.Machine
  machine_of m = record { current = views.running m.current; callers = waitings m.callers.items }

  abbrev pub turn_of : Turn S O L → turns.Turn
  turn_of turn.Next = turns.Next
  turn_of (turn.Asking step) = turns.Asking (step_of views step)
  turn_of (turn.Ending c) = turns.Ending (completion_of c)

  -- a machine before a turn
  abbrev pub config_of : Turn S O L → Machine A U O → State → Config
  config_of t m s = record { turn = turn_of t; machine = machine_of m; paid = m.paid; state = s }

  -- a paused machine that goes on from a state, as the definition sees it
  abbrev pub seen : Pause A U S O L → State → Config
  seen p s = record { turn = turn_of p.next; machine = record { current = views.running p.current; callers = waitings p.callers }; paid = p.paid; state = s }

-- a machine at the beginning of a code
abbrev pub begun_at : List Instruction → ℕ → State → Config
begun_at code d s = record { turn = turns.Next; machine = record { current = begun code d; callers = [] }; paid = 0; state = s }

-- and one at the beginning of a script of this depth: of any code that means its text
pub record Begins (dialect : Dialect) (text : Text) (d : ℕ) (c : Config) : Type 0 where
  pub code : List Instruction
  pub means : Means dialect code text
  pub at_start : c ≡ begun_at code d c.state

-- a turn, after which the frames can still be undone
pub record Kept (dialect : Dialect) (kind : Kind) (c d : Config) : Type 0 where
  pub turned : Turned dialect kind c d
  pub later : Later dialect c d
  pub unwinds : Unwinds c → Unwinds d

-- a turn for which a unit is wanting
pub record Held (dialect : Dialect) (c d : Config) : Type 0 where
  pub pauses : Pauses dialect c d
  pub fits : Fits c → Fits d
  pub unwinds : Unwinds c → Unwinds d

-- the machine has stopped at d for want of a unit, and can go on there
pub record Halts (dialect : Dialect) (c d : Config) : Type 0 where
  pub pauses : Pauses dialect c d
  pub fits : Fits d
  pub unwinds : Unwinds d

-- why there is no completion; never for want of a unit
abbrev pub Stops : Dialect → Stop → Config → State → Type 0
Stops dialect stop.Budget c s = ⊥
Stops dialect (stop.Exit n) c s = Exited dialect c n s
Stops dialect stop.Memory c s = BrokenOff dialect c s
Stops dialect stop.Io c s = BrokenOff dialect c s

module _ {A U S O L : Type 0} (dialect : Dialect) (views : Views A U S O L) where
  -- what one turn makes of a machine
  abbrev pub Makes : Result (Made S O L) Stop → Config → Machine A U O → State → Type 0
  Makes (Ok (made.On t)) c m s = Kept dialect On c (config_of views t m s)
  Makes (Ok (made.Begun t)) c m s = Kept dialect Begun c (config_of views t m s)
  Makes (Ok (made.Used t)) c m s = Kept dialect Used c (config_of views t m s)
  Makes (Ok (made.Over e)) c m s = Over dialect c (completion_of e) s
  Makes (Ok (made.Unpaid t)) c m s = Held dialect c (config_of views t m s)
  Makes (Err e) c m s = Stops dialect e c s

-- what all turns make of it
abbrev pub Ends : Dialect → Result Completion Stop → Config → Config → Type 0
Ends dialect (Ok e) c d = Over dialect c (completion_of e) d.state
Ends dialect (Err stop.Budget) c d = Halts dialect c d
Ends dialect (Err (stop.Exit n)) c d = Exited dialect c n d.state
Ends dialect (Err stop.Memory) c d = BrokenOff dialect c d.state
Ends dialect (Err stop.Io) c d = BrokenOff dialect c d.state

-- A run has done what the definition says. Where a growth was refused or a device failed, what was put out is a beginning.
abbrev pub Follows : Result Completion Stop → Got Completion → State → Type 0
Follows (Ok e) got s = Agrees got (Gives (completion_of e) s)
Follows (Err stop.Budget) got s = Agrees got (Broke (remains s))
Follows (Err (stop.Exit n)) got s = Agrees got (Exits n (remains s))
Follows (Err stop.Memory) got s = IsPart s.channels got
Follows (Err stop.Io) got s = IsPart s.channels got
