use Rattle.std.proofs.Common.{◌++◌, ◌∙◌, ap}
use Rattle.std.specs.Fmt.{signed_decimal}
use Rattle.std.specs.Int.{w64}
use Rattle.std.specs.Str.{chars}
use Rattle.std.specs.String.{string_bytes}
use Rattle.std.proofs.lemmas.Int.{to_z-of_z}
use Rattle.std.proofs.lemmas.Str.{chars-nil}
use Rattle.tcl_values.proofs.Decimals.{chars_decimal}
use Rattle.tcl_values.proofs.element_text.ElementText.of_number.Goals as goal

pub returns-in-Some : goal.returns-in-Some
returns-in-Some c =
    ap chars (c.in-Some.ensures.text ∙ ap signed_decimal (to_z-of_z w64 c.args.n c.ranges.n)) ∙ chars_decimal c.args.n c.ranges.n

pub returns : goal.returns
returns c =
    c.written.ensures ∙ c.in_ok-push_number.ensures.ok ∙ ap (λ z. chars (string_bytes c.new-text.result) ++ signed_decimal z) (to_z-of_z w64 c.args.n c.ranges.n) ∙ ap (λ t. t ++ signed_decimal c.args.n) (ap chars c.new-text.ensures.bytes ∙ chars-nil)
