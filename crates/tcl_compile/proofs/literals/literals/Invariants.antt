use Rattle.std.proofs.Common.{map}
use Rattle.tcl_compile.specs.Literals.{text_of}
use Rattle.tcl_words.specs.Parts.{shape_of}
use Rattle.tcl_compile.proofs.LiteralWords.{Texts}
use Rattle.tcl_compile.proofs.literals.literals.Given as goal

abbrev pub invariant-words : goal.invariant-words
invariant-words l = Texts l.word-index (map shape_of l.words) (map text_of l.found.items)
