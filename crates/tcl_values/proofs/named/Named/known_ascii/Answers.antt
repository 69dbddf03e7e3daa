use Rattle.std.proofs.Common.{refl, ◌∙◌}
use Rattle.tcl_values.proofs.Growth.{when_true, bytes_of_known}
use Rattle.tcl_values.proofs.named.Named.known_ascii.Goals as goal

pub returns-then-self-clause-text : goal.returns-then-self-clause-text
returns-then-self-clause-text c = c.as_str.ensures.value ∙ bytes_of_known _ _ (when_true _ _ c.if-self.true c.requires.ascii) refl
