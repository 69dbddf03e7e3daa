use Rattle.tcl_pages.proofs.Glob.{glob_is_match}
use Rattle.tcl_pages.proofs.laws.glob_is_match.Goals as goal

pub returns : goal.returns
returns c = glob_is_match
