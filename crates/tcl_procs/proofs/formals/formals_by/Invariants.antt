use Rattle.std.proofs.Common.{◌≡◌, map as each, length}
use Rattle.tcl_chars.specs.Texts.{text_of}
use Rattle.tcl_meaning.specs.Procedures.{formals_by}
use Rattle.tcl_procs.specs.Reading.{in_front}
use Rattle.tcl_table.specs.Procedures.{formal_of}
use Rattle.tcl_procs.proofs.formals.formals_by.Given as goal

abbrev pub invariant-texts : goal.invariant-texts
invariant-texts l = formals_by (each text_of l.fn.texts) ≡ in_front (each formal_of l.formals.items) (formals_by (each text_of l.rest))

abbrev pub decreases-texts : goal.decreases-texts
decreases-texts l = length l.rest
