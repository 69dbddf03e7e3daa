use Rattle.tcl_values.proofs.Gathered.{at_most_one}
use Rattle.tcl_values.proofs.gathering.depth_within.Goals as goal

pub returns-then-most-le1 : goal.returns-then-most-le1
returns-then-most-le1 c = at_most_one c.args.elements.now c.args.most c.requires.deeper c.if-most-le1.true
