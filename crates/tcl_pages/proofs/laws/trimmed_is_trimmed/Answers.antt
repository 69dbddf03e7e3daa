use Rattle.tcl_pages.proofs.Trimming.{trimmed_is_trimmed}
use Rattle.tcl_pages.proofs.laws.trimmed_is_trimmed.Goals as goal

pub returns : goal.returns
returns c = trimmed_is_trimmed
