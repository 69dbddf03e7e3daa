use Rattle.tcl_values.proofs.Gathered.{no_deeper, once_more}
use Rattle.tcl_values.proofs.gathering.add_times.Goals as goal

pub loop-done-preserved : goal.loop-done-preserved
loop-done-preserved c = record {
  same = once_more c.args.items.now.items c.loop-done.items.items c.add_copies.new.items.items c.args.more.now c.loop-done.done c.in_ok-add_copies.ensures c.loop-done.invariant.same;
  deeper = no_deeper c.args.items.now.items c.loop-done.items.items c.add_copies.new.items.items c.args.more.now c.in_ok-add_copies.ensures c.loop-done.invariant.deeper;
}
