use Rattle.std.proofs.Common.{◌∙◌}
use Rattle.tcl_chars.proofs.Same.{eq_by_chars}
use Rattle.tcl_values.proofs.key.are_same.Goals as goal

pub returns : goal.returns
returns c = c.eq.ensures ∙ eq_by_chars c.args.text.now c.args.other.now c.utf8.text c.utf8.other
