use Rattle.std.proofs.Common.{ap, length, ◌∙◌, not}
use Rattle.std.specs.Str.{chars}
use Rattle.std.proofs.lemmas.Str.{encodes-chars}
use Rattle.tcl_words.proofs.Whole.{complete_is}
use Rattle.tcl_words.proofs.complete.is_complete.Goals as goal

pub returns-in-Ok : goal.returns-in-Ok
returns-in-Ok c = complete_is _ (chars c.args.text.now) _ (ap length (encodes-chars c.args.text.now c.utf8.text)) c.if-ends_hidden.ensures c.in-Ok.ensures

pub returns-in-Err-Bad : goal.returns-in-Err-Bad
returns-in-Err-Bad c =
    let e = rw c.in-Err-Bad.field-0-is at c.in-Err-Bad.ensures in
    ap not c.is_open.ensures ∙ complete_is _ (chars c.args.text.now) _ (ap length (encodes-chars c.args.text.now c.utf8.text)) c.if-ends_hidden.ensures e
