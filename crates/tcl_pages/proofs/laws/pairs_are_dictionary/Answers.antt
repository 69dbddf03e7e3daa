use Rattle.tcl_pages.proofs.Keys.{pairs_are_dictionary}
use Rattle.tcl_pages.proofs.laws.pairs_are_dictionary.Goals as goal

pub returns : goal.returns
returns c = pairs_are_dictionary
