use Rattle.std.proofs.Common.{◌∙◌, sym}
use Rattle.tcl_values.proofs.Decimals.{same_printed}
use Rattle.tcl_values.proofs.digits.is_decimal.Goals as goal

pub returns : goal.returns
returns c =
    λ same. same_printed c.args.n c.format.result.now c.args.text.now c.ranges.n c.format.ensures.text (sym c.eq.ensures ∙ same)
