use Rattle.tcl_meaning.proofs.Soundness.{first_sound}
use Rattle.tcl_meaning.proofs.laws.begins_sound.Goals as goal

pub returns : goal.returns
returns c = first_sound
