-- How the first part of a page ends, before what is left of it.
use Rattle.std.specs.Prelude.{Result, Ok, Err}
use Rattle.tcl_frames.specs.Standing.{Standing}
use Rattle.tcl_meaning.specs.Asking.{Asks}
use Rattle.tcl_meaning.specs.Value.{Fails}
use Rattle.tcl_steps.specs.Comes.{Becomes, Comes}
use Rattle.tcl_steps.specs.declared.stop.Stop.{Stop}
use Rattle.tcl_steps.specs.declared.stop.Stop.TheVariants as stop

-- The page comes to what the rest of it comes to from there, or stops with the script's error; or memory was refused.
abbrev pub GoesOn : {A : Type 0} → Asks → Asks → Standing → Result A Stop → Standing → Type 0
GoesOn page rest before (Ok a) after = Becomes page before rest after
GoesOn page rest before (Err (stop.Error c)) after = Comes page before (Fails c) after
GoesOn page rest before (Err stop.Memory) after = Unit {0}
