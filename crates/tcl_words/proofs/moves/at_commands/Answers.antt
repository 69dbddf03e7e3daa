use Rattle.std.proofs.Common.{sym, ◌∙◌}
use Rattle.std.specs.Str.{chars}
use Rattle.tcl_words.proofs.GoesOnMoves.{commands_go, commands_close, commands_stop}
use Rattle.tcl_words.proofs.moves.at_commands.Goals as goal

pub returns-in_default : goal.returns-in_default
returns-in_default c = λ levels size s n. commands_stop (chars c.args.text.now) (chars c.after_gaps-rest.result.now) c.after_gaps-rest.ensures c.in_default.ensures.parts levels size s c.args.nested n

pub returns-then-not-ends_word : goal.returns-then-not-ends_word
returns-then-not-ends_word c = commands_go c.args.nested (chars c.args.text.now) (chars c.after_gaps-rest.result.now) c.after_gaps-rest.ensures (sym c.is_firm.ensures ∙ c.if-not-is_firm.false) (sym c.ends_word.ensures ∙ c.if-not-ends_word.true)

pub returns-then-nested : goal.returns-then-nested
returns-then-nested c =
    commands_close c.args.nested (chars c.args.text.now) (chars c.after_gaps-rest.result.now) (chars c.tail.result.now) c.after_gaps-rest.ensures (sym c.is_firm.ensures ∙ c.if-not-is_firm.false) (sym c.ends_word.ensures ∙ c.if-not-ends_word.false) c.tail.ensures
