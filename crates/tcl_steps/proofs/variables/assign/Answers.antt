use Rattle.std.proofs.Common.{subst}
use Rattle.tcl_meaning.specs.Variables.{set}
use Rattle.tcl_steps.specs.Ends.{Ends}
use Rattle.tcl_steps.proofs.variables.assign.Goals as goal

pub returns-clause-ends : goal.returns-clause-ends
returns-clause-ends c = subst (λ t. Ends (set t c.args.value) c.args.frames.now c.assign_near.result c.assign_near.new.frames) c.unkeyed-name.ensures c.assign_near.ensures.ends
