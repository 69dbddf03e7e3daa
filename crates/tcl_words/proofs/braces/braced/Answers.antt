use Rattle.std.specs.Str.{chars}
use Rattle.tcl_words.proofs.Levels.{brace_close_end}
use Rattle.tcl_words.proofs.braces.braced.Goals as goal

pub before-requires : goal.before-requires
before-requires c = brace_close_end (chars c.tail-inside.result.now) (chars c.in_ok-close.close.now) c.in_ok-close.ensures
