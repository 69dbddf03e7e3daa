use Rattle.tcl_strings.proofs.Showing.{open_end}
use Rattle.tcl_strings.proofs.formatting.at_end.Goals as goal

pub returns : goal.returns
returns c = open_end c.args.dialect c.args.stage c.args.so_far _ c.is_plain.result _ _ c.is_plain.ensures c.if-is_plain.false c.in_ok-sizes_taken.ensures c.in_ok-message.ensures
