use Rattle.std.proofs.Common.{◌≡◌, [], length, sym, ◌∙◌}
use Rattle.std.specs.Str.{chars}
use Rattle.std.proofs.lemmas.Str.{chars-nil}
use Rattle.tcl_words.specs.Parts.{part_of}
use Rattle.tcl_compile.proofs.LiteralWords.{none_spelled}
use Rattle.tcl_compile.proofs.literals.stretch.Goals as goal

pub returns-in-0-clause-literal : goal.returns-in-0-clause-literal
returns-in-0-clause-literal c =
    let size : length c.args.word.now.pieces.items ≡ 0 = sym c.args.word.now.pieces.ok.0 ∙ sym c.len.ensures ∙ c.in-0.is in
    (c.if-word.false, none_spelled part_of c.args.word.now.pieces.items (chars []) size chars-nil)
