use Rattle.std.proofs.Common.{◌≡◌}
use Rattle.std.specs.Prelude.{drop}
use Rattle.tcl_meaning.specs.Operators.{best, larger}
use Rattle.tcl_operators.proofs.functions.greatest.Given as goal

abbrev pub invariant-loop-other : goal.invariant-loop-other
invariant-loop-other l = best larger l.found (drop l.other-index l.others) ≡ best larger l.fn.first l.fn.others
