use Rattle.std.proofs.Common.{ap}
use Rattle.std.proofs.lemmas.Result.{err_from_is_err_and}
use Rattle.std.specs.Str.{chars}
use Rattle.tcl_channels.proofs.GetsLemmas.{not_kept, is_kept}
use Rattle.tcl_channels.proofs.gets.set_line.Goals as goal

pub returns-in_err-assign : goal.returns-in_err-assign
returns-in_err-assign c =
    let p = err_from_is_err_and c.from_residual-in_err-assign.result c.from_residual-in_err-assign.ensures.1 in
    rw (p.1, p.2) (not_kept _ _ _ _ _ _ _ _ (ap chars c.as_str.ensures.value) c.in_ok-text.ensures c.in_err-assign.ensures.ends)

pub returns : goal.returns
returns c = rw c.normal.ensures (is_kept _ _ _ _ _ _ _ _ (ap chars c.as_str.ensures.value) c.in_ok-text.ensures c.in_ok-count.ensures c.in_ok-assign.ensures.ends)
