use Rattle.std.proofs.Common.{◌≡◌, take}
use Rattle.tcl_list.specs.Written.{written}
use Rattle.tcl_pages.specs.Lists.{concat}
use Rattle.tcl_lists.proofs.joined.chained.Given as goal

abbrev pub invariant-loop-word : goal.invariant-loop-word
invariant-loop-word l = written l.all ≡ concat (take l.word-index l.words)
