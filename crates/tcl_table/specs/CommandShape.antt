-- How a command is stored.
use Rattle.tcl_meaning.specs.State.{Command, built_in, procedure}
use Rattle.tcl_table.specs.Procedures.{procedure_of}
use Rattle.tcl_table.specs.declared.command.Held.{Held}
use Rattle.tcl_table.specs.declared.command.Held.TheVariants as held
use Rattle.tcl_table.specs.declared.command.Meaning.{Meaning}
use Rattle.tcl_table.specs.declared.command.Meaning.TheVariants as meaning

abbrev pub command_of : Held → Command
command_of (held.BuiltIn b) = built_in b
command_of (held.Procedure p) = procedure (procedure_of p.value)

abbrev pub meaning_of : Meaning → Command
meaning_of (meaning.BuiltIn b) = built_in b
meaning_of (meaning.Procedure p) = procedure (procedure_of p.now.value)
