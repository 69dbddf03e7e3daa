use Rattle.std.proofs.Common.{◌∙◌, sym, arith}
use Rattle.tcl_each.proofs.MovingLemmas.{one_moved, all_moved}
use Rattle.tcl_each.proofs.moving.move_lists.Goals as goal

pub loop-list-preserved : goal.loop-list-preserved
loop-list-preserved c =
    one_moved c.loop-list.lists c.loop-list.list-index c.gone_behind-list.result c.list-item.result (omega arith) c.gone_behind-list.ensures ∙ c.loop-list.invariant

pub returns : goal.returns
returns c = sym (all_moved c.loop-list.lists c.loop-list.list-index (omega arith)) ∙ c.loop-list.invariant
