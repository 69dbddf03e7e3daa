use Rattle.std.proofs.Common.{map, length}
use Rattle.tcl_list.specs.Texts.{text_of}
use Rattle.tcl_compile.specs.Switches.{AreArms}
use Rattle.tcl_compile.proofs.switching.are_arms.Given as goal

-- the texts are arms if those that are left are
abbrev pub invariant-arms : goal.invariant-arms
invariant-arms l = AreArms (map text_of l.rest) → AreArms (map text_of l.fn.texts)

abbrev pub decreases-arms : goal.decreases-arms
decreases-arms l = length l.rest
