use Rattle.std.proofs.Common.{◌≡◌, ◌++◌, ap, ◌∙◌, w64, subst}
use Rattle.std.specs.Prelude.{OnOk}
use Rattle.std.specs.Str.{chars}
use Rattle.std.specs.String.{string_bytes}
use Rattle.std.specs.Fmt.{signed_decimal}
use Rattle.std.proofs.lemmas.Int.{to_z-of_z}
use Rattle.std.proofs.lemmas.Str.{chars-IsAscii}
use Rattle.tcl_chars.proofs.numbers.push_number.Goals as goal

pub returns-clause-ok : goal.returns-clause-ok
returns-clause-ok c =
    subst (λ t. OnOk c.push_text.result (chars (string_bytes c.push_text.new.text) ≡ chars (string_bytes c.args.text.now) ++ t)) (chars-IsAscii _ c.format.ensures.ascii ∙ c.format.ensures.text ∙ ap signed_decimal (to_z-of_z w64 c.args.number c.ranges.number)) c.push_text.ensures.ok
