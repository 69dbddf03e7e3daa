-- A machine: a code that runs, and those that wait for it; and what it comes to. In a dialect of numbers.
use Rattle.std.specs.Prelude.{◌≡◌, ℕ, List, [], ◌∷◌, length}
use Rattle.tcl_chars.specs.declared.numbers.Dialect.{Dialect}
use Rattle.tcl_meaning.specs.Asking.{all_answered}
use Rattle.tcl_meaning.specs.Beginnings.{OutputsBegin}
use Rattle.tcl_meaning.specs.Completions.{Completion}
use Rattle.tcl_meaning.specs.Effects.{Scope, Here, At, Within, Got, Untold, on_got, exec}
use Rattle.tcl_meaning.specs.Pages.{owed}
use Rattle.tcl_meaning.specs.Script.{Run, page_in}
use Rattle.tcl_meaning.specs.State.{Channels, State, with_store, with_active, with_frames}
use Rattle.tcl_meaning.specs.Tasks.{Step, Owes}
pub use Rattle.tcl_code.specs.Running.{Running}
use Rattle.tcl_code.specs.Caught.{move_at}
use Rattle.tcl_code.specs.Machine.{Move, result_at, Ended, landed, exec_code}

-- ---- the machine

-- What is undone when a script has ended: nothing; or this frame becomes active again; or the frames behind the first
-- n are gone, too.
pub data Undone : Type 0 where
  Nothing : Undone
  Back : (active : ℕ) → Undone
  Gone : (active frames : ℕ) → Undone

-- what is undone when a script of this scope has ended that began here
abbrev pub undone_of : Scope → State → Undone
undone_of Here s = Nothing
undone_of (At level) s = Back s.store.active
undone_of (Within vs) s = Gone s.store.active (length s.store.frames)

abbrev pub undo : Undone → State → State
undo Nothing s = s
undo (Back i) s = with_store (with_active i s.store) s
undo (Gone i n) s = with_store (with_active i (with_frames n s.store)) s

-- a page that waits for a script or an expression, and the code that called it
pub record Waiting : Type 0 where
  pub owes : Owes
  pub undone : Undone
  pub caller : Running
  -- how many commands are paid for in the caller that haven't been called yet
  pub paid : ℕ

-- those that wait stand in the order of their calls
pub record Machine : Type 0 where
  pub current : Running
  pub callers : List Waiting

-- ---- what it comes to

-- what the instruction does where a code stands, or its end
abbrev pub here : Dialect → Running → State → Move
here dialect a s = move_at dialect a s

module _ (dialect : Dialect) where
  -- the code comes to this, from where it stands
  pub record Comes (a : Running) (s : State) (got : Got Completion) : Type 0 where
    pub steps : ℕ
    pub ends : exec_code dialect a.code steps a.spot s ≡ Ended got

  -- and to this, where the command that was called there comes to that
  pub record After (a : Running) (that got : Got Completion) : Type 0 where
    pub steps : ℕ
    pub ends : landed (exec_code dialect a.code steps) a.spot.stack.loops (result_at a.spot.at a.spot.stack a.spot.depth) that ≡ Ended got

  -- what a page comes to, called from a script of this depth, when it has come to a step
  abbrev pub left_of_page : ℕ → Step → State → Got Completion
  left_of_page d step s = exec (Run dialect) (all_answered dialect (owed dialect) d step) s

  -- what the page that waits comes to, where what it asked for comes to that
  abbrev pub paid_back : Waiting → Got Completion → Got Completion
  paid_back w that = on_got that (λ c s. exec (Run dialect) (page_in dialect w.caller.spot.depth (owed dialect w.owes c)) (undo w.undone s))

  -- those that wait come to r where the last one's question comes to that
  abbrev pub Returns : List Waiting → Got Completion → Got Completion → Type 0
  Returns [] that r = that ≡ r
  Returns (w ∷ ws) that r = (mid : Got Completion) × Returns ws that mid × After w.caller (paid_back w mid) r

  -- a machine between two instructions comes to r
  pub record Goes (m : Machine) (s : State) (r : Got Completion) : Type 0 where
    pub mid : Got Completion
    pub runs : Comes m.current s mid
    pub returns : Returns m.callers mid r

  -- and one whose command is called, where that comes to got
  pub record Lands (m : Machine) (got : Got Completion) (r : Got Completion) : Type 0 where
    pub mid : Got Completion
    pub lands : After m.current got mid
    pub returns : Returns m.callers mid r

-- The definition has asked for input that isn't told. What was put out until then stays a beginning, and no more is said.
pub record IsLost (s : State) (r : Got Completion) : Type 0 where
  pub channels : Channels
  pub untold : r ≡ Untold channels
  pub begins : OutputsBegin channels s.channels
