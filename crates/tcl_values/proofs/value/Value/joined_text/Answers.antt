use Rattle.std.proofs.Common.{ap, ◌∙◌, ◌++◌}
use Rattle.std.specs.List.{concat}
use Rattle.std.specs.Str.{chars}
use Rattle.std.proofs.lemmas.Str.{chars-nil}
use Rattle.tcl_values.proofs.value.Value.joined_text.Goals as goal

pub loop-value-init : goal.loop-value-init
loop-value-init c = ap (λ t. t ++ concat c.args.values.now) (ap chars c.new-whole.ensures.bytes ∙ chars-nil)
