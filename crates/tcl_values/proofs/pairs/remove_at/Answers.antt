use Rattle.tcl_values.proofs.PairKept.{deeper_less}
use Rattle.tcl_values.proofs.pairs.remove_at.Goals as goal

pub returns-clause-deeper : goal.returns-clause-deeper
returns-clause-deeper c = deeper_less c.args.own.now.values.items _ c.args.place _ c.requires.deeper c.remove.ensures.items
