use Rattle.std.proofs.Common.{◌∙◌, ap, sym}
use Rattle.std.specs.Int.{w64}
use Rattle.std.proofs.lemmas.Int.{to_z-of_z}
use Rattle.tcl_chars.specs.Whole.{whole_of}
use Rattle.tcl_values.specs.Shape.{held_text}
use Rattle.tcl_values.proofs.Decimals.{reads_decimal}
use Rattle.tcl_values.proofs.value.Value.known_number.Goals as goal

pub returns-in-Number : goal.returns-in-Number
returns-in-Number c =
    let fits = rw c.in-Number.is at c.self.invariant in
    rw (to_z-of_z w64 c.in-Number.n fits)
    (ap (whole_of c.args.dialect) (sym c.self.view_is ∙ ap held_text c.in-Number.is) ∙ reads_decimal c.args.dialect c.in-Number.n fits)
