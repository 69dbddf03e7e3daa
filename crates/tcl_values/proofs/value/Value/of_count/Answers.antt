use Rattle.std.proofs.Common.{◌∙◌, ap}
use Rattle.std.specs.Str.{chars}
use Rattle.std.proofs.lemmas.Str.{chars-IsAscii}
use Rattle.tcl_values.proofs.value.Value.of_count.Goals as goal

pub returns-in_ok-digits-in-Err : goal.returns-in_ok-digits-in-Err
returns-in_ok-digits-in-Err c = c.of_text.ensures ∙ ap chars c.in_ok-digits-in-Err.ensures.ok ∙ chars-IsAscii _ c.format.ensures.ascii ∙ c.format.ensures.text
