use Rattle.tcl_activation.proofs.Joining.{nothing_shown}
use Rattle.tcl_activation.proofs.texts.is_nothing.Goals as goal

pub returns-in-Some : goal.returns-in-Some
returns-in-Some c = nothing_shown c.is_empty.result c.in-Some.shown.now c.args.text.now c.is_empty.ensures c.in-Some.ensures
