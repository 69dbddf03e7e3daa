use Rattle.std.proofs.Common.{[], ◌∷◌, length, length-append, get_or, ap, sym, ◌∙◌, arith}
use Rattle.std.proofs.lemmas.Result.{err_from_is_err_and}
use Rattle.tcl_vars.specs.Way.{element_in}
use Rattle.tcl_vars.proofs.PlaceLemmas.{place_stops, places_go_on}
use Rattle.tcl_vars.proofs.path.places_of.Goals as goal

pub returns-in_err-place-clause-places : goal.returns-in_err-place-clause-places
returns-in_err-place-clause-places c =
    let p = err_from_is_err_and c.from_residual-in_err-place.result c.from_residual-in_err-place.ensures.1 in
    rw (p.1, p.2)
    (place_stops c.in_err-place.field-0.0 c.args.dialect c.loop-at.inner (get_or c.loop-at.indices c.loop-at.at []) c.args.count c.loop-at.at c.args.indices.now c.loop-at.places.items _ c.loop-at-test.true c.requires.within
    (ap (λ ws. get_or ws c.loop-at.at []) c.loop-at.invariant.same) c.in_err-place.ensures.place c.loop-at.invariant.led)

pub loop-at-preserved : goal.loop-at-preserved
loop-at-preserved c = record {
  same = c.place_by.ensures.indices ∙ c.loop-at.invariant.same;
  size = ap length c.in_ok-push-2.ensures.items ∙ length-append c.loop-at.places.items (c.in_ok-place.place ∷ []) ∙ omega (arith, c.loop-at.invariant.size);
  led =
      places_go_on c.args.dialect c.loop-at.inner c.in_ok-inner-2.inner (get_or c.loop-at.indices c.loop-at.at []) c.in_ok-place.place c.args.count c.loop-at.at c.args.indices.now c.loop-at.places.items _ c.loop-at-test.true c.requires.within
      (ap (λ ws. get_or ws c.loop-at.at []) c.loop-at.invariant.same) c.in_ok-push-2.ensures.items c.in_ok-place.ensures.place
      (ap (λ t. element_in t c.in_ok-place.place) (sym c.place_by.ensures.same) ∙ c.in_ok-inner-2.ensures.element) ∙ c.loop-at.invariant.led;
}
