use Rattle.tcl_frames.proofs.Joined.{variables_here}
use Rattle.tcl_frames.proofs.all_variables.AllVariables.add_names.Goals as goal

pub returns : goal.returns
returns c = rw (variables_here c.self.inside.frames.items c.args.self.now c.args.frame c.index.result.now c.self.view_is c.index.ensures c.requires) c.add_names.ensures
