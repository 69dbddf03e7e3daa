use Rattle.std.proofs.Common.{◌≡◌, ◌++◌, map as each, length}
use Rattle.std.specs.Str.{chars}
use Rattle.std.specs.String.{string_bytes}
use Rattle.tcl_pages.specs.Texts.{spaced_more}
use Rattle.tcl_meaning.specs.Procedures.{shown_formals}
use Rattle.tcl_table.specs.Procedures.{formal_of}
use Rattle.tcl_procs.proofs.usages.procedure_usage.Given as goal

abbrev pub invariant-formals : goal.invariant-formals
invariant-formals l = chars (string_bytes l.text) ++ spaced_more (shown_formals (each formal_of l.left)) ≡ chars l.fn.word ++ spaced_more (shown_formals (each formal_of l.fn.formals))

abbrev pub decreases-formals : goal.decreases-formals
decreases-formals l = length l.left
