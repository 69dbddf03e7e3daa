use Rattle.tcl_values.proofs.Gathered.{many_deeper}
use Rattle.tcl_values.proofs.gathering.Gathering.repeated.Goals as goal

pub invariant_of-result : goal.invariant_of-result
invariant_of-result c = record {
  limit = c.self.invariant.limit;
  deeper = many_deeper c.self.inside.items.items c.add_times.new.items.items c.in_ok-items.items.items c.deref.result.now c.self.inside.depth c.in_ok-items.ensures.items c.deref.ensures.value c.in_ok-add_times.ensures.depth c.self.invariant.deeper;
}
