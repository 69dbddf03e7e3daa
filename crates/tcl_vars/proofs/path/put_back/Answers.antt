use Rattle.std.proofs.lemmas.Result.{err_from_is_err_and}
use Rattle.std.proofs.Common.{◌∙◌}
use Rattle.tcl_lists.proofs.IndexLemmas.{stops_same}
use Rattle.tcl_vars.proofs.WayLemmas.{level_put, level_stops}
use Rattle.tcl_vars.proofs.path.put_back.Goals as goal

pub returns-in_err-put : goal.returns-in_err-put
returns-in_err-put c =
    let p = err_from_is_err_and c.from_residual.result c.from_residual.ensures.1 in
    rw (p.1, p.2)
    (stops_same c.in_err-put.field-0.0 _ _ c.loop-level.invariant
    (level_stops c.in_err-put.field-0.0 c.loop-level.levels.items c.pop.new.self.items c.in-Some.level c.loop-level.element c.in-Some.ensures.items c.in_err-put.ensures.done))

pub loop-level-preserved : goal.loop-level-preserved
loop-level-preserved c =
    level_put c.loop-level.levels.items c.pop.new.self.items c.in-Some.level c.loop-level.element c.put.new.list c.in-Some.ensures.items c.in_ok-put.ensures.done ∙ c.loop-level.invariant
