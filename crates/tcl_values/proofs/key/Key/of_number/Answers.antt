use Rattle.std.proofs.Common.{◌∙◌}
use Rattle.tcl_values.proofs.Decimals.{printed}
use Rattle.tcl_values.proofs.key.Key.of_number.Goals as goal

pub returns-in-Some : goal.returns-in-Some
returns-in-Some c = c.in_place.ensures ∙ c.in-Some.ensures.text ∙ printed c.args.n c.format.result.now c.ranges.n c.format.ensures.text
