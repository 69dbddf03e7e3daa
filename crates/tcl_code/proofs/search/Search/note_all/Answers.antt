use Rattle.tcl_code.proofs.Noting.{noted_then, noted_stop}
use Rattle.tcl_code.proofs.search.Search.note_all.Goals as goal

pub returns-then-not-branch : goal.returns-then-not-branch
returns-then-not-branch c = noted_stop _ _ _ _ _ _ _ _ c.if-not-branch.true c.in_ok-note_at.ensures

pub returns : goal.returns
returns c = noted_then _ _ _ _ _ _ _ _ _ _ _ c.if-not-branch.false c.in_ok-note_at.ensures c.in_ok-fits.ensures
