use Rattle.std.proofs.Common.{ap, ◌∙◌, w64}
use Rattle.std.specs.Fmt.{signed_decimal}
use Rattle.std.proofs.lemmas.Int.{to_z-of_z}
use Rattle.std.proofs.lemmas.Str.{chars-IsAscii}
use Rattle.tcl_chars.proofs.MessagesLemmas.{says}
use Rattle.tcl_chars.proofs.numbers.number_text.Goals as goal

pub returns : goal.returns
returns c = says c.from_str.result _ _ c.from_str.ensures.ok (chars-IsAscii _ c.format.ensures.ascii ∙ c.format.ensures.text ∙ ap signed_decimal (to_z-of_z w64 c.args.number c.ranges.number))
