use Rattle.std.proofs.lemmas.Str.{IsUtf8-string_bytes}
use Rattle.tcl_chars.proofs.Writing.{chars_push_str}
use Rattle.tcl_chars.proofs.texts.push_text.Goals as goal

pub returns-clause-ok : goal.returns-clause-ok
returns-clause-ok c = chars_push_str _ _ c.args.more.now (IsUtf8-string_bytes c.args.text.now) c.in_ok-push_str.ensures.bytes
