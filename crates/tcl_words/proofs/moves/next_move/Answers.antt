use Rattle.std.proofs.Common.{sym, subst}
use Rattle.std.specs.Str.{chars}
use Rattle.tcl_words.specs.declared.moves.At.{At}
use Rattle.tcl_words.specs.Waiting.{Moves}
use Rattle.tcl_words.proofs.moves.next_move.Goals as goal

pub returns-in-Commands : goal.returns-in-Commands
returns-in-Commands c =
    let P : At → Type 0 = λ at. Moves c.args.reader.levels c.args.nested at (chars c.args.text.now) c.at_commands.result in
    subst P (sym c.in-Commands.is) (c.at_commands.ensures c.args.reader.levels)

pub returns-in-Words : goal.returns-in-Words
returns-in-Words c =
    let P : At → Type 0 = λ at. Moves c.args.reader.levels c.args.nested at (chars c.args.text.now) c.at_words.result in
    subst P (sym c.in-Words.is) (c.at_words.ensures c.args.reader.levels)

pub returns-in-Braces : goal.returns-in-Braces
returns-in-Braces c =
    let P : At → Type 0 = λ at. Moves c.args.reader.levels c.args.nested at (chars c.args.text.now) c.at_braces.result in
    subst P (sym c.in-Braces.is) (c.at_braces.ensures c.args.reader.levels)
