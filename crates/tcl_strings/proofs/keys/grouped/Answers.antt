use Rattle.tcl_pages.specs.Dictionaries.{pairs}
use Rattle.tcl_strings.proofs.Grouped.{few, next_two, all_put}
use Rattle.tcl_strings.proofs.keys.grouped.Goals as goal

pub loop-left-preserved : goal.loop-left-preserved
loop-left-preserved c =
    next_two (pairs c.args.items.now) c.loop-left.left.now c.key-item.result c.value-item.result _ _ c.loop-left.groups.items _ c.in-len2-up.len_at_least c.key-item.is c.value-item.is c.as_str.ensures c.as_str-in-len2-up.ensures c.in_ok-put_pair.ensures c.loop-left.invariant

pub returns : goal.returns
returns c = all_put _ _ _ (few c.loop-left.left.now c.in_default.len_below) c.loop-left.invariant
