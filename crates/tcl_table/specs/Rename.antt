-- What renaming a command does: rename(n).
use Rattle.std.specs.Prelude.{◌≡◌, Option, None, Some, Result, Ok, Err}
use Rattle.std.specs.FinMap as map
use Rattle.tcl_pages.specs.Texts.{Text}
use Rattle.tcl_meaning.specs.State.{Command, Commands}
use Rattle.tcl_table.specs.declared.table.TableFault.{TableFault}
use Rattle.tcl_table.specs.declared.table.TableFault.TheVariants as fault

-- A command goes from its name to one that is free.
abbrev pub renamed_by : Commands → Text → Text → Option Command → Option Command → Result Commands TableFault
renamed_by cs old new None there = Err fault.Unknown
renamed_by cs old new (Some c) (Some d) = Err fault.TargetExists
renamed_by cs old new (Some c) None = Ok (map.insert (map.remove cs old) new c)

abbrev pub renamed : Commands → Text → Text → Result Commands TableFault
renamed cs old new = renamed_by cs old new (map.get cs old) (map.get cs new)

-- the fault is what the definition answers, or memory was refused
abbrev pub Refuses : Result Commands TableFault → TableFault → Type 0
Refuses answer fault.Memory = Unit {0}
Refuses answer fault.Unknown = answer ≡ Err fault.Unknown
Refuses answer fault.TargetExists = answer ≡ Err fault.TargetExists
