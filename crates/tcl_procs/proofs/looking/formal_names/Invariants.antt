use Rattle.std.proofs.Common.{◌≡◌, map as each, take}
use Rattle.tcl_table.specs.Procedures.{formal_of}
use Rattle.tcl_procs.proofs.looking.formal_names.Given as goal

abbrev pub invariant-loop-formal : goal.invariant-loop-formal
invariant-loop-formal l = l.names.items ≡ each (λ f. f.name) (each formal_of (take l.formal-index l.formals))
