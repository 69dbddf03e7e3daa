use Rattle.std.proofs.Common.{◌≡◌}
use Rattle.std.specs.Prelude.{drop}
use Rattle.std.specs.Str.{chars}
use Rattle.tcl_meaning.specs.Operators.{is_in}
use Rattle.tcl_values.specs.Kept.{texts}
use Rattle.tcl_operators.proofs.comparisons.is_among.Given as goal

abbrev pub invariant-loop-element : goal.invariant-loop-element
invariant-loop-element l = is_in (chars l.fn.text) (texts (drop l.element-index l.elements)) ≡ is_in (chars l.fn.text) (texts l.fn.elements)
