use Rattle.std.proofs.Common.{ap, sym, ◌∙◌}
use Rattle.std.specs.Str.{chars}
use Rattle.tcl_words.specs.Waiting.{has_more}
use Rattle.tcl_words.proofs.GoesOnMoves.{braced_form, quoted_form, bare_form}
use Rattle.tcl_words.proofs.moves.begin_word.Goals as goal

pub returns-in-Braced : goal.returns-in-Braced
returns-in-Braced c = braced_form (chars c.args.text.now) (chars c.tail.result.now) (ap has_more c.in-Some.ensures.parts.in_chars) (sym c.form_of.ensures ∙ c.in-Braced.is) c.tail.ensures

pub returns-in-Quoted : goal.returns-in-Quoted
returns-in-Quoted c = quoted_form (chars c.args.text.now) (chars c.tail-in-Quoted.result.now) (ap has_more c.in-Some.ensures.parts.in_chars) (sym c.form_of.ensures ∙ c.in-Quoted.is) c.tail-in-Quoted.ensures

pub returns-in-Bare : goal.returns-in-Bare
returns-in-Bare c = bare_form (chars c.args.text.now) (ap has_more c.in-Some.ensures.parts.in_chars) (sym c.form_of.ensures ∙ c.in-Bare.is)
