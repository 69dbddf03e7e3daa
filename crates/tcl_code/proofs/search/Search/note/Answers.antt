use Rattle.tcl_code.proofs.Noting.{noted_there, noted_new}
use Rattle.tcl_code.proofs.search.Search.note.Goals as goal

pub returns-in-Some : goal.returns-in-Some
returns-in-Some c = noted_there _ _ _ _ _ _ _ c.at.ensures c.in-Some.is c.same.ensures

pub returns-in_ok-put-in-None : goal.returns-in_ok-put-in-None
returns-in_ok-put-in-None c = noted_new _ _ _ _ _ _ _ c.requires c.at.ensures c.in-None.is c.in_ok-wait-in-None.ensures.there c.in_ok-wait-in-None.ensures.kept c.in_ok-wait-in-None.ensures.long c.in_ok-put-in-None.ensures
