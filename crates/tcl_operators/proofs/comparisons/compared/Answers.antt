use Rattle.std.proofs.Common.{◌∙◌, ap, sym, Ok}
use Rattle.tcl_operators.proofs.Emptiness.{compared_to_nothing}
use Rattle.tcl_operators.proofs.comparisons.compared.Goals as goal

pub returns-then-is_shown_empty-clause-order : goal.returns-then-is_shown_empty-clause-order
returns-then-is_shown_empty-clause-order c =
    compared_to_nothing c.args.dialect c.args.left.now c.args.right.now c.if-is_shown_empty.ensures ∙ ap Ok (sym c.in_ok-beside_nothing.ensures.order)
