use Rattle.std.proofs.Common.{Err, ap, sym, ◌∙◌}
use Rattle.std.specs.Str.{chars}
use Rattle.tcl_chars.specs.Texts.{literal}
use Rattle.tcl_control.proofs.SwitchPairs.{pattern_left, nothing_left, last_body, last_dash}
use Rattle.tcl_control.specs.Arms.{arm_texts}
use Rattle.tcl_meaning.specs.Shapes.{no_body}
use Rattle.tcl_control.proofs.switching.checked.Goals as goal

pub returns-then-count-pairs : goal.returns-then-count-pairs
returns-then-count-pairs c = pattern_left (arm_texts c.args.arms) c.len-count.result c.len-count.ensures c.if-count-pairs.true ∙ ap Err (sym c.in_ok-said.ensures)

pub returns-then-pairs-eq0 : goal.returns-then-pairs-eq0
returns-then-pairs-eq0 c = nothing_left (arm_texts c.args.arms) c.len-count.result c.len-count.ensures c.if-count-pairs.false c.if-pairs-eq0.true

pub returns-then-not-is_dash : goal.returns-then-not-is_dash
returns-then-not-is_dash c =
    last_body (arm_texts c.args.arms) c.len-count.result c.len-count.ensures c.if-count-pairs.false c.if-pairs-eq0.false (sym c.in_ok-is_dash.ensures ∙ c.if-not-is_dash.true)

pub returns : goal.returns
returns c =
    last_dash (arm_texts c.args.arms) c.len-count.result c.len-count.ensures c.if-count-pairs.false c.if-pairs-eq0.false (sym c.in_ok-is_dash.ensures ∙ c.if-not-is_dash.false)
    ∙ ap Err (sym (c.in_ok-said-2.ensures ∙ ap no_body (ap chars c.as_str.ensures.value ∙ c.in_ok-text.ensures.text ∙ c.in_ok-pattern.ensures)))
