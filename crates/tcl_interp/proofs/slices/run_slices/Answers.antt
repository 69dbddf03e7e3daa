use Rattle.std.specs.Str.{chars}
use Rattle.tcl_interp.specs.Interp.{state_at}
use Rattle.tcl_interp.proofs.Ending.{begun_part}
use Rattle.tcl_interp.proofs.slices.run_slices.Goals as goal

pub returns-in-Err-clause-run : goal.returns-in-Err-clause-run
returns-in-Err-clause-run g c = begun_part c.args.interp.dialect (chars c.args.script.now) (state_at g.R.Input.to_come g.W.Output.written g.E.Output.written c.args.interp c.args.world.now c.args.budget)
