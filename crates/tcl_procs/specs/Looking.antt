-- Commands that look at the command table: info(n).
use Rattle.std.specs.Prelude.{Bool, true, false}
use Rattle.tcl_meaning.specs.SeenPages.{any_command, is_procedure}
use Rattle.tcl_meaning.specs.State.{Command}
use Rattle.tcl_meaning.specs.declared.page.SeenPage.{SeenPage}
use Rattle.tcl_meaning.specs.declared.page.SeenPage.TheVariants as page

-- those that look at the command table, and at nothing else
abbrev pub LooksAtCommands : SeenPage → Type 0
LooksAtCommands page.ArrayExists = ⊥
LooksAtCommands page.ArrayGet = ⊥
LooksAtCommands page.ArrayNames = ⊥
LooksAtCommands page.ArraySize = ⊥
LooksAtCommands page.InfoArgs = Unit {0}
LooksAtCommands page.InfoBody = Unit {0}
LooksAtCommands page.InfoCommands = Unit {0}
LooksAtCommands page.InfoExists = ⊥
LooksAtCommands page.InfoLevel = ⊥
LooksAtCommands page.InfoProcs = Unit {0}
LooksAtCommands page.InfoVars = ⊥

-- the kind of commands that are listed: procedures, or all
abbrev pub of_kind : Bool → Command → Bool
of_kind true = is_procedure
of_kind false = any_command
