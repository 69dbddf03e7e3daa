use Rattle.tcl_pages.specs.Dictionaries.{pairs}
use Rattle.tcl_values.specs.Kept.{texts}
use Rattle.tcl_strings.proofs.Grouped.{next_kept}
use Rattle.tcl_strings.proofs.keys.group_of_few.Goals as goal

pub loop-left-preserved : goal.loop-left-preserved
loop-left-preserved c =
    next_kept (pairs (texts c.args.items.now)) c.loop-left.left.now c.key-item.result c.value-item.result _ _ c.loop-left.group _ c.in-len2-up.len_at_least c.key-item.is c.value-item.is c.in-Some-Some.ensures c.in-Some-Some.ensures' c.in_ok-put.ensures c.loop-left.invariant
