use Rattle.std.proofs.Common.{◌≡◌, rules, subst}
use Rattle.tcl_activation.specs.Standing.{LandsSo}
use Rattle.tcl_code.specs.Running.{Running}
use Rattle.tcl_engine.proofs.Landing.{lands_so}
use Rattle.tcl_engine.proofs.engine.HostEngine.answer.Goals as goal

pub returns : goal.returns
returns g c =
    let same : c.deref_mut.result.now ≡ c.args.room.now = search rules in
    lands_so c.answer.result c.args.room.now c.answer.new.self c.args.completion (subst (λ (x : Running). LandsSo c.answer.result x c.answer.new.self c.args.completion) same c.answer.ensures.lands)
