-- What calls have done to the frames can be undone.
use Rattle.std.specs.Prelude.{◌≡◌, ◌+◌, ◌<◌, List, [], ◌∷◌, length}
use Rattle.tcl_meaning.specs.State.{State}
use Rattle.tcl_vm.specs.Standing.{Undone, Nothing, Back, Gone, undo, Waiting}
use Rattle.tcl_vm.specs.Turns.{Config}

-- the frame that becomes active again stands, and the frame that goes is the last one
abbrev pub CanUndo : Undone → State → Type 0
CanUndo Nothing s = Unit {0}
CanUndo (Back i) s = i < length s.store.frames
CanUndo (Gone i n) s = (i < n) × (length s.store.frames ≡ n + 1)

-- as many frames stand
pub record SameFrames (s t : State) : Type 0 where
  pub count : length t.store.frames ≡ length s.store.frames

-- Those that wait have led from b to s, and each can be undone.
abbrev pub Above : List Waiting → State → State → Type 0
Above [] b s = SameFrames b s
Above (w ∷ ws) b s = (t : State) × CanUndo w.undone t × SameFrames b (undo w.undone t) × Above ws t s

pub record Unwinds (c : Config) : Type 0 where
  pub base : State
  pub above : Above c.machine.callers base c.state
