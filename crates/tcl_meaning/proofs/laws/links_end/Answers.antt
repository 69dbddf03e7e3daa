use Rattle.tcl_meaning.specs.Script.{plan}
use Rattle.tcl_meaning.proofs.Soundness.{outcome_sound}
use Rattle.tcl_meaning.proofs.laws.links_end.Goals as goal

pub returns : goal.returns
returns c = λ dialect task s h. outcome_sound (plan dialect) task s h
