-- How a session ended, beside what the definition says of it.
use Rattle.std.specs.Prelude.{◌≡◌, ℕ, Bool, true, false, List, Option}
use Rattle.tcl_pages.specs.Texts.{Text}
use Rattle.tcl_meaning.specs.Agreement.{Agrees, IsPart}
use Rattle.tcl_meaning.specs.Effects.{Got, Gives, Broke, Exits}
use Rattle.tcl_meaning.specs.Frames.{Frame}
use Rattle.tcl_meaning.specs.State.{Commands, Channels, Remains}
use Rattle.tcl_interp.specs.Outcome.{state_left}
use Rattle.tcl_shell.specs.declared.end.SessionEnd.{SessionEnd}
use Rattle.tcl_shell.specs.declared.end.SessionEnd.TheVariants as end

-- it ended by itself, and some number of units is left
pub record EndsGiving (got : Got (Unit {0})) (r : Remains) : Type 0 where
  pub left : ℕ
  pub agrees : Agrees got (Gives tt (state_left r left))

-- The end and what is left are the definition's; where memory was refused or a device failed, what was put out is a part of what
-- the definition puts out.
abbrev pub EndsSo : SessionEnd → Got (Unit {0}) → Remains → Type 0
EndsSo end.Ended got r = EndsGiving got r
EndsSo end.Budget got r = Agrees got (Broke r)
EndsSo (end.Exit status) got r = Agrees got (Exits status r)
EndsSo end.Memory got r = IsPart r.channels got
EndsSo end.Io got r = IsPart r.channels got

-- Outputs that hold these bytes. Of variables, commands and input nothing is told.
pub record Tells (e : SessionEnd) (got : Got (Unit {0})) (out err : Option (List ℕ)) : Type 0 where
  pub globals : Frame
  pub commands : Commands
  pub input : Option Text
  pub met_end : Bool
  pub ends : EndsSo e got (record { globals = globals; commands = commands; channels = record { input = input; met_end = met_end; out = out; err = err } })

-- a device failed
abbrev pub end_is_io : SessionEnd → Bool
end_is_io end.Ended = false
end_is_io end.Budget = false
end_is_io (end.Exit status) = false
end_is_io end.Memory = false
end_is_io end.Io = true
