use Rattle.tcl_control.proofs.TryLemmas.{try_none}
use Rattle.tcl_control.proofs.trying.try_page.Goals as goal

pub returns-then-words-eq0 : goal.returns-then-words-eq0
returns-then-words-eq0 c = try_none c.args.dialect c.args.words.now _ c.if-words-eq0.true c.usage.ensures
