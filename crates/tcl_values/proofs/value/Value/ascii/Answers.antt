use Rattle.std.proofs.Common.{◌∙◌, ap, sym}
use Rattle.tcl_values.specs.Shape.{held_text}
use Rattle.tcl_values.proofs.Growth.{bytes_of_known}
use Rattle.tcl_values.proofs.value.Value.ascii.Goals as goal

pub returns-in-Ascii-clause-text : goal.returns-in-Ascii-clause-text
returns-in-Ascii-clause-text c =
    let known = rw c.in-Ascii.is at c.self.invariant in
    c.as_str-in-Ascii.ensures.value ∙ bytes_of_known _ _ known (sym (ap held_text c.in-Ascii.is) ∙ c.self.view_is)
