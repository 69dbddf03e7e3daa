use Rattle.std.proofs.Common.{length}
use Rattle.std.specs.Str.{chars}
use Rattle.tcl_frames.specs.Levels.{level_of}
use Rattle.tcl_meaning.specs.ProcedurePages.{link_pairs}
use Rattle.tcl_steps.specs.Comes.{Becomes}
use Rattle.tcl_procs.proofs.links.link_pairs.Given as goal

abbrev pub invariant-pairs : goal.invariant-pairs
invariant-pairs l = Becomes (link_pairs (chars l.fn.word) (level_of l.fn.level) l.fn.names) l.fn.frames (link_pairs (chars l.fn.word) (level_of l.fn.level) l.left) l.frames

abbrev pub decreases-pairs : goal.decreases-pairs
decreases-pairs l = length l.left
