use Rattle.tcl_values.proofs.Gathered.{turned_deeper, turned_texts}
use Rattle.tcl_values.proofs.gathering.Gathering.reversed.Goals as goal

pub invariant_of-result : goal.invariant_of-result
invariant_of-result c = record { limit = c.self.invariant.limit; deeper = turned_deeper c.self.inside.items.items c.reverse.new.self.items c.self.inside.depth c.reverse.ensures.items c.self.invariant.deeper }

pub returns : goal.returns
returns c = turned_texts c.self.inside.items.items c.reverse.new.self.items _ c.reverse.ensures.items c.self.view_is
