use Rattle.std.proofs.Common.{refl}
use Rattle.tcl_code.proofs.Fronts.{none_front}
use Rattle.tcl_code.proofs.front.Front.new.Goals as goal

pub returns-clause-front : goal.returns-clause-front
returns-clause-front c = λ code. none_front code _ _ refl c.bare.ensures
