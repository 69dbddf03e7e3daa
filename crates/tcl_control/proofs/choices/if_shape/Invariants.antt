use Rattle.std.proofs.Common.{◌≡◌, length}
use Rattle.tcl_control.specs.Choices.{with_clauses}
use Rattle.tcl_meaning.specs.Shapes.{if_shape, at_condition}
use Rattle.tcl_control.proofs.choices.if_shape.Given as goal

abbrev pub invariant-words : goal.invariant-words
invariant-words l = if_shape l.fn.words ≡ with_clauses l.clauses.items (at_condition l.rest)

abbrev pub decreases-words : goal.decreases-words
decreases-words l = length l.rest
