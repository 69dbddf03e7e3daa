use Rattle.std.proofs.Common.{◌≡◌, length}
use Rattle.tcl_steps.specs.Pairs.{pairs_in}
use Rattle.tcl_control.specs.Arms.{arm_texts}
use Rattle.tcl_meaning.specs.Shapes.{body_from}
use Rattle.tcl_control.proofs.switching.body_from.Given as goal

abbrev pub invariant-pairs : goal.invariant-pairs
invariant-pairs l = body_from (pairs_in (arm_texts l.fn.arms)) ≡ body_from (pairs_in (arm_texts l.rest))

abbrev pub decreases-pairs : goal.decreases-pairs
decreases-pairs l = length (arm_texts l.rest)
