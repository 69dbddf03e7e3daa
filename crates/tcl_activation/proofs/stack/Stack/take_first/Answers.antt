use Rattle.std.specs.Prelude.{drop}
use Rattle.tcl_activation.proofs.Taking.{takes_first}
use Rattle.tcl_activation.proofs.stack.Stack.take_first.Goals as goal

pub returns : goal.returns
returns c = takes_first c.args.self.now c.newest_mut.result.now c.take_first.new.self (drop 1 c.args.self.now.lists) c.in_ok-first.first c.newest_mut.ensures.value c.in_ok-first.ensures.some c.in_ok-first.ensures.none c.push.result c.push.new.self c.push.ensures
