use Rattle.std.proofs.Common.{drop, map}
use Rattle.tcl_words.specs.Parts.{shape_of}
use Rattle.tcl_compile.specs.Fragments.{Plain}
use Rattle.tcl_compile.proofs.script.any_expands.Given as goal

abbrev pub invariant-words : goal.invariant-words
invariant-words l = Plain (drop l.word-index (map shape_of l.words)) → Plain (map shape_of l.words)
