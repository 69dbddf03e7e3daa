use Rattle.tcl_values.proofs.Changed.{lengthened_low}
use Rattle.tcl_values.proofs.change.lengthen_row.Goals as goal

pub returns-clause-limit : goal.returns-clause-limit
returns-clause-limit c = lengthened_low c.splice.result c.args.row.now.value c.splice.new.row.value c.args.more.items _ c.requires.kept c.splice.ensures.kept c.requires.limit c.requires.more c.splice.ensures.done c.splice.ensures.same_depth
