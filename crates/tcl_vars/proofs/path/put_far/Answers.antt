use Rattle.std.proofs.Common.{take, ap, sym, ◌∙◌}
use Rattle.std.proofs.lemmas.Result.{err_from_is_err_and}
use Rattle.tcl_lists.proofs.IndexLemmas.{stops_same}
use Rattle.tcl_vars.specs.Way.{all_seen, way_of}
use Rattle.tcl_vars.proofs.WayLemmas.{way_ends, way_back, back_stops}
use Rattle.tcl_vars.proofs.path.put_far.Goals as goal

pub returns-in_err-levels-clause-done : goal.returns-in_err-levels-clause-done
returns-in_err-levels-clause-done c =
    let is = take c.args.count c.args.indices.now in
    let p = err_from_is_err_and c.from_residual-in_err-levels.result c.from_residual-in_err-levels.ensures.1 in
    rw (p.1, p.2)
    (way_ends c.in_err-levels.field-0.0 c.args.dialect c.args.value.now is c.args.new (stops_same c.in_err-levels.field-0.0 _ _ (ap (λ t. way_of c.args.dialect t is) c.in_ok-start.ensures) c.in_err-levels.ensures.levels))

pub returns-in_err-value-clause-done : goal.returns-in_err-value-clause-done
returns-in_err-value-clause-done c =
    let is = take c.args.count c.args.indices.now in
    let p = err_from_is_err_and c.from_residual-in_err-value.result c.from_residual-in_err-value.ensures.1 in
    rw (p.1, p.2)
    (back_stops c.in_err-value.field-0.0 c.args.dialect c.args.value.now is c.args.new (all_seen c.in_ok-levels.levels.items)
    (ap (λ t. way_of c.args.dialect t is) (sym c.in_ok-start.ensures) ∙ c.in_ok-levels.ensures.levels) c.in_err-value.ensures)

pub returns-clause-done : goal.returns-clause-done
returns-clause-done c =
    let is = take c.args.count c.args.indices.now in
    way_back c.args.dialect c.args.value.now is c.args.new c.in_ok-value.field-0 (all_seen c.in_ok-levels.levels.items)
    (ap (λ t. way_of c.args.dialect t is) (sym c.in_ok-start.ensures) ∙ c.in_ok-levels.ensures.levels) c.in_ok-value.ensures
