use Rattle.std.specs.Str.{chars}
use Rattle.tcl_words.proofs.GoesOnMoves.{braces_open, brace_step, brace_word}
use Rattle.std.proofs.Common.{sym, ◌∙◌}
use Rattle.tcl_words.proofs.moves.at_braces.Goals as goal

pub returns-in_default : goal.returns-in_default
returns-in_default c = λ levels size s n. braces_open (chars c.args.text.now) c.args.hidden c.args.depth c.in_default.ensures.parts levels size s c.args.nested n

pub returns-then-closes : goal.returns-then-closes
returns-then-closes c =
    brace_word (chars c.args.text.now) (chars c.in-Some.rest.now) c.in-Some.c c.args.hidden c.args.depth c.args.nested c.behind_word.result c.in-Some.ensures.parts.in_chars (sym c.closes.ensures ∙ c.if-closes.true) c.behind_word.ensures

pub returns-in-Some-behind_character : goal.returns-in-Some-behind_character
returns-in-Some-behind_character c = λ levels size s y l n.
    brace_step (chars c.args.text.now) (chars c.in-Some.rest.now) c.in-Some.c c.args.hidden c.in-Some-behind_character.below c.args.depth c.in-Some-behind_character.inside c.in-Some.ensures.parts.in_chars c.in-Some-behind_character.ensures
    levels size s y c.args.nested l n
