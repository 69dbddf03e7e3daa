use Rattle.std.proofs.Common.{◌≡◌, false, sym, ap, ◌∙◌, Err}
use Rattle.std.specs.Str.{chars}
use Rattle.tcl_list.specs.Elements.{braced, followed}
use Rattle.tcl_list.specs.Texts.{text_of}
use Rattle.tcl_list.specs.declared.reading.Closed.TheVariants as closed
use Rattle.tcl_list.proofs.BraceEnds.{close_ends}
use Rattle.tcl_list.proofs.Parts.{brace_open, brace_closed}
use Rattle.tcl_list.proofs.reading.braced.Goals as goal

pub returns-in_default : goal.returns-in_default
returns-in_default c = brace_open (chars c.args.text.now) c.in_default.ensures ∙ ap Err (sym c.in_ok-unmatched_brace.ensures)

pub before-requires : goal.before-requires
before-requires c = close_ends false 0 (chars c.args.text.now) (chars c.in-Some.rest.now) c.in-Some.ensures

pub returns : goal.returns
returns c =
    let e : braced (chars c.args.text.now) ≡ followed closed.Brace (text_of c.in_ok-inner.inner) (chars c.tail.result.now) =
    brace_closed _ _ _ _ c.in-Some.ensures (ap chars c.in_ok-inner.ensures.ok ∙ c.before-2.ensures) c.tail.ensures in
    rw e c.followed.ensures
