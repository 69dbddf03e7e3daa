use Rattle.std.proofs.Common.{sym, ap, ◌∙◌}
use Rattle.std.specs.Str.{chars}
use Rattle.tcl_meaning.specs.Procedures.{is_level}
use Rattle.tcl_procs.proofs.UplevelLemmas.{no_words, at_level, at_caller}
use Rattle.tcl_procs.proofs.uplevel.uplevel_page.Goals as goal

pub returns-then-words-eq0 : goal.returns-then-words-eq0
returns-then-words-eq0 c = no_words c.args.words.now c.uplevel_usage.result c.args.frames.now c.if-words-eq0.true c.uplevel_usage.ensures

pub returns-then-is_level : goal.returns-then-is_level
returns-then-is_level c =
    let again = ap chars c.as_str-then-is_level.ensures.value in
    at_level c.args.words.now c.text_at.new.words (chars c.as_str-then-is_level.result.now) c.args.frames.now c.run_at.result c.if-words-eq0.false c.text_at.ensures.same (again ∙ c.in_ok-first.ensures.text)
    (ap is_level (again ∙ sym (ap chars c.as_str.ensures.value)) ∙ sym c.is_level.ensures ∙ c.if-is_level.true) c.run_at.ensures

pub returns : goal.returns
returns c =
    at_caller c.args.words.now c.text_at.new.words (chars c.as_str.result.now) c.args.frames.now c.run_at-2.result c.if-words-eq0.false c.text_at.ensures.same (ap chars c.as_str.ensures.value ∙ c.in_ok-first.ensures.text)
    (sym c.is_level.ensures ∙ c.if-is_level.false) c.run_at-2.ensures
