use Rattle.std.proofs.Common.{sym, subst}
use Rattle.std.specs.Str.{chars}
use Rattle.tcl_chars.specs.Place.{EndsWith}
use Rattle.tcl_chars.proofs.Ends.{ends_drop}
use Rattle.tcl_words.proofs.Forward.{verbatim_end}
use Rattle.tcl_words.proofs.Verbatim.{escape_seen, text_seen, verbatim_none, verbatim_escape, verbatim_text}
use Rattle.tcl_words.proofs.braces.next_verbatim.Goals as goal

pub returns-in_default : goal.returns-in_default
returns-in_default c = verbatim_none c.args.size (chars c.args.text.now) c.in_default.ensures.parts

pub stretch-requires : goal.stretch-requires
stretch-requires c = subst (EndsWith (chars c.args.text.now)) (sym c.escaped-meant.ensures.rest) (ends_drop _ (chars c.args.text.now))

pub returns-then-begins_hidden_newline : goal.returns-then-begins_hidden_newline
returns-then-begins_hidden_newline c =
    rw (escape_seen c.stretch.result c.escaped-meant.result.0) (verbatim_escape c.args.size (chars c.args.text.now) _ c.escaped-meant.result.0 (chars c.escaped-meant.result.1.now) (sym c.if-begins_hidden_newline.ensures) c.stretch.ensures c.escaped-meant.ensures.meant c.escaped-meant.ensures.rest)

pub stretch-requires-2 : goal.stretch-requires-2
stretch-requires-2 c = subst (EndsWith (chars c.args.text.now)) (sym c.after_verbatim-rest.ensures) (verbatim_end (chars c.args.text.now))

pub returns : goal.returns
returns c =
    rw (text_seen c.stretch-2.result) (verbatim_text c.args.size (chars c.args.text.now) _ _ _ (chars c.after_verbatim-rest.result.now) (sym c.if-begins_hidden_newline.ensures) c.in-Some.ensures.parts.in_chars c.stretch-2.ensures c.after_verbatim-rest.ensures)
