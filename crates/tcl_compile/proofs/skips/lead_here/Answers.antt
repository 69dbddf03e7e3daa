use Rattle.std.proofs.Common.{arith}
use Rattle.std.proofs.lemmas.Result.{on_ok_weaker}
use Rattle.tcl_compile.proofs.Forks.{led}
use Rattle.tcl_compile.proofs.skips.lead_here.Goals as goal

pub returns : goal.returns
returns c =
    let size = c.len.ensures in
    on_ok_weaker c.patch.result (λ h. led _ _ c.args.place _ h (omega (arith, size))) c.patch.ensures.done
