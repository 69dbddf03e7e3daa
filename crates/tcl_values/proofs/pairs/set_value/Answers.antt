use Rattle.std.proofs.Common.{refl}
use Rattle.tcl_values.proofs.PairKept.{deeper_set}
use Rattle.tcl_values.proofs.pairs.set_value.Goals as goal

pub returns-clause-deeper : goal.returns-clause-deeper
returns-clause-deeper c = deeper_set c.args.own.now.values.items _ c.args.place c.args.value c.args.own.now.depth _ _ c.requires.deeper refl c.depth.ensures c.max-own.ensures
