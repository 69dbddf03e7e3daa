use Rattle.std.proofs.Common.{◌≤◌, suc, arith}
use Rattle.tcl_values.specs.Kept.{depth_over}
use Rattle.tcl_values.proofs.Depths.{depth_below, depth_more}
use Rattle.tcl_values.proofs.items.deepest.Goals as goal

pub overflow_add-depth : goal.overflow_add-depth
overflow_add-depth c =
    let below : suc c.element-item.result.depth ≤ depth_over c.args.elements.now = depth_below c.args.elements.now c.loop-element.element-index c.element-item.result c.loop-element-test.true c.element-item.is in
    omega (arith, below, c.requires, c.depth.ensures)

pub loop-element-preserved : goal.loop-element-preserved
loop-element-preserved c =
    depth_more c.args.elements.now c.loop-element.element-index c.element-item.result _ _ _ c.loop-element-test.true c.element-item.is c.loop-element.invariant c.depth.ensures c.max-depth.ensures
