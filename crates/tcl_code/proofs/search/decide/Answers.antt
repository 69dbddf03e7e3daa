use Rattle.std.proofs.Common.{refl}
use Rattle.tcl_code.proofs.Found.{nothing_popped}
use Rattle.tcl_code.proofs.Whatever.{decided, undecided}
use Rattle.tcl_code.proofs.search.decide.Goals as goal

pub returns : goal.returns
returns c = decided _ _ _ _ _ (nothing_popped _ _ _ c.in_default.ensures.cases.0 c.in_default.ensures.rest c.in_default.ensures.items) c.loop-place.invariant.at c.loop-place.invariant.closed refl c.top.ensures

pub returns-then-not-branch : goal.returns-then-not-branch
returns-then-not-branch c = undecided _ (c.in_ok-settle.ensures.no c.if-not-branch.true)
