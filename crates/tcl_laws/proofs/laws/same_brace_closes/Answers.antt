use Rattle.tcl_laws.proofs.BracedWord.{same_brace_closes}
use Rattle.tcl_laws.proofs.laws.same_brace_closes.Goals as goal

pub returns : goal.returns
returns c = same_brace_closes
