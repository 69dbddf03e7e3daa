use Rattle.tcl_values.proofs.Beginnings.{left_from, left_counted}
use Rattle.tcl_values.proofs.places.marked_from.Goals as goal

pub returns : goal.returns
returns c =
    let counted = left_counted c.args.marks.now c.args.text.now c.as_bytes.result.now c.marks_below-blocks.result c.over_blocks-start.result.0 c.over_blocks-start.result.1 c.args.place c.begun_in-passed.result
    c.as_bytes.ensures.value c.over_blocks-start.ensures.passed c.begun_in-passed.ensures c.requires c.marks_below-blocks.ensures.within c.marks_below-blocks.ensures.below in
    left_from c.args.text.now c.range_from.result.now c.behind_first.result.now c.over_blocks-start.result.0 c.next_begin-next.result c.over_blocks-start.result.1 c.args.place
    c.behind_first.ensures c.range_from.ensures.value c.utf8.text c.next_begin-next.ensures counted
