use Rattle.tcl_meaning.specs.CodePages.{after_catch}
use Rattle.tcl_steps.proofs.Endings.{closes}
use Rattle.tcl_vars.proofs.catching.after_catch.Goals as goal

pub returns : goal.returns
returns c = closes (after_catch c.args.names.now c.args.completion) c.args.frames.now c.caught.new.frames c.caught.result c.closed.result c.caught.ensures c.closed.ensures
