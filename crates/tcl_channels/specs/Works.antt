-- What commands do over channels.
use Rattle.std.specs.Prelude.{ℕ, Result, Ok, Err}
use Rattle.tcl_frames.specs.Standing.{Standing}
use Rattle.tcl_meaning.specs.Agreement.{Agrees, IsPart}
use Rattle.tcl_meaning.specs.Asking.{Asks}
use Rattle.tcl_meaning.specs.Completions.{Completion}
use Rattle.tcl_meaning.specs.Effects.{Gives, does}
use Rattle.tcl_meaning.specs.State.{Store, Channels, State, Commands}
use Rattle.tcl_meaning.specs.Tasks.{Done}
use Rattle.tcl_steps.specs.declared.fault.Fault.{Fault}
use Rattle.tcl_steps.specs.declared.fault.Fault.TheVariants as fault
use Rattle.tcl_steps.specs.Comes.{state_of}
use Rattle.tcl_steps.specs.Ends.{first_step}
use Rattle.tcl_channels.specs.Shown.{over}

-- The page is done with this completion. Or it was broken off, as memory was refused or a device failed: then what was put out
-- is a part of what the definition puts out. It never ends the run.
abbrev pub Works : Asks → State → Result Completion Fault → State → Type 0
Works page before (Ok c) after = Agrees (does (first_step page) before) (Gives (Done c) after)
Works page before (Err (fault.Exit status)) after = ⊥
Works page before (Err fault.Memory) after = IsPart after.channels (does page before)
Works page before (Err fault.Io) after = IsPart after.channels (does page before)

-- over channels, whatever scripts keep, which stays
abbrev pub WorksOver : Asks → Channels → Result Completion Fault → Channels → Type 0
WorksOver page before result after = (store : Store) (units : ℕ) → Works page (over store before units) result (over store after units)

-- over frames and channels, whatever the commands are
abbrev pub WorksIn : Asks → Standing → Channels → Result Completion Fault → Standing → Channels → Type 0
WorksIn page f before result g after = (cs : Commands) (units : ℕ) → Works page (state_of cs before units f) result (state_of cs after units g)
