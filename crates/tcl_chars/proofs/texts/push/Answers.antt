use Rattle.std.proofs.lemmas.Str.{IsUtf8-string_bytes}
use Rattle.tcl_chars.proofs.Writing.{chars_push}
use Rattle.tcl_chars.proofs.texts.push.Goals as goal

pub returns-clause-ok : goal.returns-clause-ok
returns-clause-ok c = chars_push _ _ c.args.c (IsUtf8-string_bytes c.args.text.now) c.ranges.c.0 c.in_ok-push.ensures.bytes
