use Rattle.tcl_code.proofs.Fronts.{behind_valid, decided_anyway}
use Rattle.tcl_code.proofs.front.decide_behind.Goals as goal

pub returns-then-front-eq0 : goal.returns-then-front-eq0
returns-then-front-eq0 c = decided_anyway _ _ _ _ c.decide.ensures

pub returns-in-Some : goal.returns-in-Some
returns-in-Some c = λ texts front. behind_valid texts _ _ _ _ _ _ _ c.in_ok-top.ensures c.in-Some.is c.behind.ensures c.covering.ensures.this c.covering.ensures.other front

pub returns-in-None : goal.returns-in-None
returns-in-None c = decided_anyway _ _ _ _ c.decide-in-None.ensures
