use Rattle.std.proofs.Common.{drop, map}
use Rattle.std.specs.Str.{chars}
use Rattle.std.specs.String.{string_bytes}
use Rattle.tcl_words.specs.Parts.{part_of}
use Rattle.tcl_compile.proofs.LiteralWords.{Spells}
use Rattle.tcl_compile.proofs.literals.spelled.Given as goal

abbrev pub invariant-pieces : goal.invariant-pieces
invariant-pieces l = Spells (map part_of l.pieces) (chars (string_bytes l.text)) (drop l.piece-index (map part_of l.pieces))
