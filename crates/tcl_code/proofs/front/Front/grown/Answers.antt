use Rattle.std.proofs.Common.{refl}
use Rattle.tcl_code.proofs.Fronts.{behind_valid, whole_front}
use Rattle.tcl_code.proofs.front.Front.grown.Goals as goal

pub returns-in-Some : goal.returns-in-Some
returns-in-Some c = λ texts front. whole_front texts _ _ _ refl (behind_valid texts _ _ _ _ _ _ _ c.in_ok-top.ensures c.in-Some.is c.behind.ensures c.covering.ensures.this c.covering.ensures.other front)
