use Rattle.tcl_frames.proofs.Joined.{variables_here}
use Rattle.tcl_frames.proofs.all_variables.AllVariables.find.Goals as goal

pub returns-clause-found : goal.returns-clause-found
returns-clause-found c = rw (variables_here c.self.inside.frames.items c.args.self.now c.args.frame c.index.result.now c.self.view_is c.index.ensures c.requires) c.find_in.ensures.found

pub returns-clause-refused : goal.returns-clause-refused
returns-clause-refused c = rw (variables_here c.self.inside.frames.items c.args.self.now c.args.frame c.index.result.now c.self.view_is c.index.ensures c.requires) c.find_in.ensures.refused
