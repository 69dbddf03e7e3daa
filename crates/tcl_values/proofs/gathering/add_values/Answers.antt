use Rattle.tcl_values.proofs.Gathered.{came_deeper, came_texts}
use Rattle.tcl_values.proofs.gathering.add_values.Goals as goal

pub loop-value-preserved : goal.loop-value-preserved
loop-value-preserved c = record {
  same = came_texts c.args.items.now.items c.loop-value.items.items c.push.new.self.items c.in_ok-element.element c.args.more.now c.loop-value.value-index c.value-item.result c.loop-value-test.true c.value-item.is c.in_ok-push.ensures.items
      c.in_ok-element.ensures.text c.loop-value.invariant.same;
  deeper = came_deeper c.loop-value.items.items c.push.new.self.items c.in_ok-element.element c.loop-value.deepest c.in_ok-element.depth c.loop-value.invariant.deeper c.in_ok-push.ensures.items c.in_ok-element.ensures.others c.in_ok-element.ensures.deeper;
  limit = c.in_ok-element.ensures.limit;
}
