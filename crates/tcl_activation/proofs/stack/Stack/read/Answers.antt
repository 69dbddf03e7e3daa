use Rattle.std.proofs.Common.{ap, ◌∙◌}
use Rattle.std.specs.Str.{chars}
use Rattle.tcl_activation.proofs.Acting.{read_as}
use Rattle.tcl_activation.proofs.stack.Stack.read.Goals as goal

pub returns-in-Some : goal.returns-in-Some
returns-in-Some g c = read_as (g.F.Variables.store c.args.frames.now) _ _ _ _ _ c.in-Some.ensures c.read_named.ensures

pub returns : goal.returns
returns g c = read_as (g.F.Variables.store c.args.frames.now) _ _ _ _ _ (ap chars c.as_str.ensures.value ∙ c.in_ok-text.ensures.text ∙ c.in_ok-copy.ensures) c.read_named-2.ensures
