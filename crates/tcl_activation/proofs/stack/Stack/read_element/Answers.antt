use Rattle.std.proofs.Common.{ap, ◌∙◌}
use Rattle.std.specs.Str.{chars}
use Rattle.tcl_activation.proofs.Acting.{element_read}
use Rattle.tcl_activation.proofs.stack.Stack.read_element.Goals as goal

pub returns : goal.returns
returns g c = element_read (g.F.Variables.store c.args.frames.now) c.args.name.now c.pop-index.result _ c.args.self.now c.read_named.new.self c.read_named.result _ c.pop-index.ensures (ap chars c.as_str.ensures.value ∙ c.in_ok-full.ensures) c.read_named.ensures
