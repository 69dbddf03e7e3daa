use Rattle.std.proofs.Common.{length, map}
use Rattle.tcl_list.specs.Texts.{text_of}
use Rattle.tcl_words.specs.Parts.{shape_of}
use Rattle.tcl_compile.proofs.EachEmits.{ListsLeft}
use Rattle.tcl_compile.proofs.each.each_words.Given as goal

abbrev pub invariant-lists : goal.invariant-lists
invariant-lists l = ListsLeft (map shape_of l.fn.words) (map text_of l.names.items) (map shape_of l.rest)

abbrev pub decreases-lists : goal.decreases-lists
decreases-lists l = length l.rest
