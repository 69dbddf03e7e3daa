use Rattle.std.proofs.Common.{◌≡◌}
use Rattle.std.specs.Prelude.{drop}
use Rattle.tcl_meaning.specs.Operators.{best, smaller}
use Rattle.tcl_operators.proofs.functions.least.Given as goal

abbrev pub invariant-loop-other : goal.invariant-loop-other
invariant-loop-other l = best smaller l.found (drop l.other-index l.others) ≡ best smaller l.fn.first l.fn.others
