use Rattle.tcl_operators.proofs.Emptiness.{some_keys}
use Rattle.tcl_operators.proofs.comparisons.has_keys.Goals as goal

pub returns-in-Ok-clause-keys : goal.returns-in-Ok-clause-keys
returns-in-Ok-clause-keys c = some_keys c.args.value.now c.in-Ok.size c.in-Ok.ensures.size
