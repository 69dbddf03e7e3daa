-- The two forms of rename(n).
use Rattle.std.specs.FinMap as map
use Rattle.tcl_pages.specs.Texts.{Text}
use Rattle.tcl_meaning.specs.Asking.{Asks}
use Rattle.tcl_meaning.specs.Names.{without_colons}
use Rattle.tcl_meaning.specs.ProcedurePages.{delete_command, rename_command}
use Rattle.tcl_meaning.specs.Value.{◌>>=◌, look}

-- a name goes away
abbrev pub delete_page : Text → Asks
delete_page name = do
  s ← look
  delete_command name (map.get s.commands (without_colons name))

-- a command goes to another name
abbrev pub move_page : Text → Text → Asks
move_page old new = do
  s ← look
  rename_command old new (map.get s.commands (without_colons old)) (map.get s.commands (without_colons new))
