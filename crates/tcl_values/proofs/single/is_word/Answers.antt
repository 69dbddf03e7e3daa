use Rattle.std.proofs.Common.{sym, ◌∙◌}
use Rattle.tcl_values.proofs.Singles.{single_word}
use Rattle.tcl_values.proofs.single.is_word.Goals as goal

pub returns-then-is_plain : goal.returns-then-is_plain
returns-then-is_plain c =
    λ all. single_word _ _ c.in-Some.first c.in-Some.ensures.parts.in_chars (sym c.is_plain.ensures ∙ c.if-is_plain.true) (sym c.is_all_plain.ensures ∙ all)
