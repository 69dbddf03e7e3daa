-- Procedures, as the definitions see them.
use Rattle.std.specs.Prelude.{map as each, option_map}
use Rattle.tcl_names.specs.Named.{text_of}
use Rattle.tcl_meaning.specs.State as state
use Rattle.tcl_table.specs.declared.command.Formal.{Formal}
use Rattle.tcl_table.specs.declared.command.Procedure.{Procedure}

abbrev pub formal_of : Formal → state.Formal
formal_of f = record { name = text_of f.name; default = option_map text_of f.default }

abbrev pub procedure_of : Procedure → state.Procedure
procedure_of p = record { formals = each formal_of p.formals.items; body = text_of p.body }
