use Rattle.std.proofs.Common.{◌≡◌, Some, map as each, length}
use Rattle.std.specs.FinMap as map
use Rattle.tcl_meaning.specs.Procedures.{bound}
use Rattle.tcl_table.specs.Procedures.{formal_of}
use Rattle.tcl_procs.proofs.binding.bound.Given as goal

abbrev pub invariant-formals : goal.invariant-formals
invariant-formals l = bound (Some map.empty) (each formal_of l.fn.formals) l.fn.words ≡ bound (Some l.variables) (each formal_of l.left) l.rest

abbrev pub decreases-formals : goal.decreases-formals
decreases-formals l = length l.left
