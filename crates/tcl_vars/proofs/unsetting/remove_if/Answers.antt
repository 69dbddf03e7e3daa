use Rattle.std.specs.Str.{chars}
use Rattle.tcl_vars.proofs.UnsetLemmas.{quietly}
use Rattle.tcl_vars.proofs.unsetting.remove_if.Goals as goal

pub returns : goal.returns
returns c = quietly c.unset.result (chars c.args.name.now) c.args.frames.now c.unset.new.self c.unset.ensures.done c.unset.ensures.refused c.unset.ensures.same
