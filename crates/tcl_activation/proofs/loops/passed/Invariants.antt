use Rattle.std.specs.Prelude.{drop, reverse}
use Rattle.tcl_activation.proofs.Passing.{PassesTo}
use Rattle.tcl_activation.proofs.loops.passed.Given as goal

abbrev pub invariant-loop-behind : goal.invariant-loop-behind
invariant-loop-behind l = PassesTo (reverse l.open) (drop l.behind (reverse l.open))
