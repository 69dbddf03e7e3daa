use Rattle.std.proofs.Common.{length}
use Rattle.tcl_meaning.specs.ProcedurePages.{link_globals}
use Rattle.tcl_steps.specs.Comes.{Becomes}
use Rattle.tcl_procs.proofs.links.link_globals.Given as goal

abbrev pub invariant-names : goal.invariant-names
invariant-names l = Becomes (link_globals l.fn.names) l.fn.frames (link_globals l.left) l.frames

abbrev pub decreases-names : goal.decreases-names
decreases-names l = length l.left
