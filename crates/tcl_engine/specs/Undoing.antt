-- What is undone when a script has ended, as the machine has it.
use Rattle.tcl_vm.specs.Standing as standing
use Rattle.tcl_engine.specs.declared.undone.Undone.{Undone}
use Rattle.tcl_engine.specs.declared.undone.Undone.TheVariants as undone

abbrev pub undone_shown : Undone → standing.Undone
undone_shown undone.Nothing = standing.Nothing
undone_shown (undone.Back active) = standing.Back active
undone_shown (undone.Gone active frames) = standing.Gone active frames
