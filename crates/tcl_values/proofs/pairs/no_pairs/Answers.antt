use Rattle.std.proofs.Common.{refl}
use Rattle.tcl_values.proofs.PairKept.{none_kept}
use Rattle.tcl_values.proofs.pairs.no_pairs.Goals as goal

pub returns-clause-kept : goal.returns-clause-kept
returns-clause-kept c = none_kept _ refl refl c.new.ensures.empty c.new-2.ensures.items
