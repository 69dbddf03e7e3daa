use Rattle.std.proofs.Common.{◌≡◌, [], ◌∷◌, ap, ◌∙◌}
use Rattle.std.specs.Fmt.{signed_decimal}
use Rattle.std.specs.Int.{w64}
use Rattle.std.proofs.lemmas.Int.{to_z-of_z}
use Rattle.tcl_list.specs.Written.{written}
use Rattle.tcl_values.specs.Kept.{texts}
use Rattle.tcl_values.proofs.Singles.{number_written}
use Rattle.tcl_values.proofs.single.number_row.Goals as goal

pub returns-clause-text : goal.returns-clause-text
returns-clause-text c =
    let spelled : written (texts c.in_ok-elements.elements.items) ≡ signed_decimal c.args.n =
    ap (λ es. written (texts es)) c.in_ok-elements.ensures.items ∙ ap (λ t. written (t ∷ [])) c.of_number.ensures.text
    ∙ ap (λ z. written (signed_decimal z ∷ [])) (to_z-of_z w64 c.args.n c.ranges.n) ∙ number_written c.args.n c.ranges.n in
    rw spelled at c.gathered.ensures.text
