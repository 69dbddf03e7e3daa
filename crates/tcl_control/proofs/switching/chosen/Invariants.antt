use Rattle.std.proofs.Common.{◌≡◌, length}
use Rattle.tcl_steps.specs.Pairs.{pairs_in}
use Rattle.tcl_control.specs.Arms.{arm_texts}
use Rattle.tcl_meaning.specs.Shapes.{chosen}
use Rattle.tcl_control.proofs.switching.chosen.Given as goal

abbrev pub invariant-pairs : goal.invariant-pairs
invariant-pairs l = chosen l.fn.globs l.fn.subject (pairs_in (arm_texts l.fn.arms)) ≡ chosen l.fn.globs l.fn.subject (pairs_in (arm_texts l.rest))

abbrev pub decreases-pairs : goal.decreases-pairs
decreases-pairs l = length (arm_texts l.rest)
