use Rattle.tcl_values.proofs.PairKept.{deeper_more}
use Rattle.tcl_values.proofs.pairs.add_pair.Goals as goal

pub returns-clause-deeper : goal.returns-clause-deeper
returns-clause-deeper c = deeper_more c.args.own.now.values.items c.push.new.self.items c.args.value c.args.own.now.depth _ _ c.requires.deeper c.in_ok-push.ensures.items c.depth-depth.ensures c.max-own.ensures
