-- Built-in commands, put under their names one after another.
use Rattle.std.specs.Prelude.{List, [], ◌∷◌}
use Rattle.std.specs.FinMap as map
use Rattle.tcl_pages.specs.Texts.{Text}
use Rattle.tcl_meaning.specs.declared.page.BuiltIn.{BuiltIn}
use Rattle.tcl_meaning.specs.State.{Commands, built_in}

abbrev pub with_built_ins : List (Text × BuiltIn) → Commands → Commands
with_built_ins [] commands = commands
with_built_ins (entry ∷ entries) commands = with_built_ins entries (map.insert commands entry.0 (built_in entry.1))
