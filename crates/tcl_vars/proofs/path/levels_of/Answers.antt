use Rattle.std.proofs.Common.{[], ◌∷◌, ◌++◌, get_or, ap, sym, ◌∙◌}
use Rattle.std.proofs.lemmas.Result.{err_from_is_err_and}
use Rattle.tcl_vars.specs.Way.{all_seen, seen, element_in}
use Rattle.std.proofs.lemmas.List.{map_push}
use Rattle.tcl_vars.proofs.WayLemmas.{way_goes_on, way_stops}
use Rattle.tcl_vars.proofs.path.levels_of.Goals as goal

pub returns-in_err-place-clause-levels : goal.returns-in_err-place-clause-levels
returns-in_err-place-clause-levels c =
    let p = err_from_is_err_and c.from_residual-in_err-place.result c.from_residual-in_err-place.ensures.1 in
    rw (p.1, p.2)
    (way_stops c.in_err-place.field-0.0 c.args.dialect c.loop-at.list (get_or c.loop-at.indices c.loop-at.at []) c.args.count c.loop-at.at c.args.indices.now (all_seen c.loop-at.levels.items) _ c.loop-at-test.true c.requires
    (ap (λ ws. get_or ws c.loop-at.at []) c.loop-at.invariant.same) c.in_err-place.ensures.place c.loop-at.invariant.led)

pub loop-at-preserved : goal.loop-at-preserved
loop-at-preserved c = record {
  same = c.place_by.ensures.indices ∙ c.loop-at.invariant.same;
  led =
      way_goes_on c.args.dialect c.loop-at.list c.in_ok-inner.inner (get_or c.loop-at.indices c.loop-at.at []) c.in_ok-place.place c.args.count c.loop-at.at c.args.indices.now (all_seen c.loop-at.levels.items) _ c.loop-at-test.true c.requires
      (ap (λ ws. get_or ws c.loop-at.at []) c.loop-at.invariant.same)
      (ap all_seen c.in_ok-push.ensures.items ∙ map_push seen c.loop-at.levels.items _
      ∙ ap (λ t. all_seen c.loop-at.levels.items ++ (t, c.in_ok-place.place) ∷ []) (c.element_of.ensures.same ∙ c.place_by.ensures.same)) c.in_ok-place.ensures.place
      (ap (λ t. element_in t c.in_ok-place.place) (sym c.place_by.ensures.same) ∙ c.in_ok-inner.ensures.element) ∙ c.loop-at.invariant.led;
}
