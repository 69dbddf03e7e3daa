use Rattle.std.proofs.Common.{sym, ◌∙◌, arith}
use Rattle.std.specs.Str.{chars}
use Rattle.std.specs.String.{string_bytes}
use Rattle.tcl_pages.specs.Strings.{repeated_text}
use Rattle.tcl_chars.proofs.Places.{chars_empty}
use Rattle.std.proofs.lemmas.Bool.{eqb-true}
use Rattle.tcl_strings.proofs.Times.{of_nothing, goes_on}
use Rattle.tcl_strings.proofs.cases.repeated.Goals as goal

pub returns-then-is_empty : goal.returns-then-is_empty
returns-then-is_empty c = c.in_ok-said.ensures ∙ of_nothing _ _ (chars_empty _ (eqb-true _ _ (sym c.is_empty.ensures ∙ c.if-is_empty.true)))

pub loop-left-preserved : goal.loop-left-preserved
loop-left-preserved c = goes_on (chars (string_bytes c.loop-left.said)) _ (chars c.args.text.now) (repeated_text c.args.count (chars c.args.text.now)) c.loop-left.left (omega arith) c.in_ok-push_text.ensures.ok c.loop-left.invariant
