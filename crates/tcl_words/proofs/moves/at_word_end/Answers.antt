use Rattle.std.proofs.Common.{ap}
use Rattle.std.specs.Str.{chars}
use Rattle.tcl_words.specs.Waiting.{has_more}
use Rattle.tcl_words.proofs.GoesOnMoves.{quote_ended, bare_ended}
use Rattle.tcl_words.proofs.moves.at_word_end.Goals as goal

pub returns-then-quoted : goal.returns-then-quoted
returns-then-quoted c = quote_ended c.args.nested c.args.quoted (chars c.args.rest.now) (chars c.tail.result.now) c.behind_word.result c.if-quoted.true c.tail.ensures (ap has_more c.in-Some.ensures.parts.in_chars) c.behind_word.ensures

pub returns-else-quoted : goal.returns-else-quoted
returns-else-quoted c = (ap has_more c.in-Some.ensures.parts.in_chars, bare_ended c.args.nested c.args.quoted (chars c.args.rest.now) c.if-quoted.false)
