use Rattle.std.proofs.Common.{sym, ◌∙◌}
use Rattle.std.specs.Str.{chars}
use Rattle.tcl_words.proofs.GoesOnMoves.{behind_go}
use Rattle.tcl_words.proofs.moves.behind_word.Goals as goal

pub returns-then-ends_word : goal.returns-then-ends_word
returns-then-ends_word c = behind_go c.args.nested (chars c.args.rest.now) (sym c.is_firm.ensures ∙ c.if-is_firm.true) (sym c.ends_word.ensures ∙ c.if-ends_word.true)
