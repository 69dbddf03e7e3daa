use Rattle.tcl_pages.proofs.Keys.{dictionary_is_distinct}
use Rattle.tcl_pages.proofs.laws.dictionary_is_distinct.Goals as goal

pub returns : goal.returns
returns c = dictionary_is_distinct
