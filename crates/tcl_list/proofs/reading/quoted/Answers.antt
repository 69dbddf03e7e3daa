use Rattle.std.proofs.Common.{◌≡◌, sym, ap, ◌∙◌, Err}
use Rattle.std.specs.Str.{chars}
use Rattle.tcl_list.specs.Elements.{quoted, followed}
use Rattle.tcl_list.specs.Texts.{text_of}
use Rattle.tcl_list.specs.declared.reading.Closed.TheVariants as closed
use Rattle.tcl_list.proofs.Parts.{quote_open, quote_closed}
use Rattle.tcl_list.proofs.reading.quoted.Goals as goal

pub returns-in_default : goal.returns-in_default
returns-in_default c = quote_open _ _ _ c.in_ok-said.ensures c.in_default.ensures.parts ∙ ap Err (sym c.in_ok-unmatched_quote.ensures)

pub returns : goal.returns
returns c =
    let e : quoted (chars c.args.text.now) ≡ followed closed.Quote (text_of c.in_ok-said.said) (chars c.in-Some.after.now) =
    quote_closed _ _ _ _ _ c.in_ok-said.ensures c.in-Some.ensures.parts.in_chars in
    rw e c.followed.ensures
