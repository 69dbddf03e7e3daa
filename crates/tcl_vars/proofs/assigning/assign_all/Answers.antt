use Rattle.std.proofs.Common.{[], get_or, ap, ◌∙◌}
use Rattle.std.proofs.lemmas.Result.{err_from_is_err_and}
use Rattle.tcl_steps.proofs.SetAll.{set_one, set_stops}
use Rattle.tcl_vars.proofs.assigning.assign_all.Goals as goal

pub loop-place-preserved : goal.loop-place-preserved
loop-place-preserved c = record {
  names = c.assign_at.ensures.same ∙ c.loop-place.invariant.names;
  so_far = λ ts agree.
      set_one c.args.names.now ts c.loop-place.place (get_or c.loop-place.names c.loop-place.place []) c.in_ok-value.value _ _ _ c.loop-place-test.true
      (ap (λ ws. get_or ws c.loop-place.place []) c.loop-place.invariant.names)
      (c.in_ok-value.ensures ∙ agree c.loop-place.place c.loop-place-test.true) (c.loop-place.invariant.so_far ts agree) c.in_ok-assign_at.ensures.ends;
}

pub returns-in_err-assign_at-clause-ends : goal.returns-in_err-assign_at-clause-ends
returns-in_err-assign_at-clause-ends c = λ ts agree.
    let p = err_from_is_err_and c.from_residual-in_err-assign_at.result c.from_residual-in_err-assign_at.ensures.1 in
    rw (p.1, p.2)
    (set_stops c.args.names.now ts c.loop-place.place (get_or c.loop-place.names c.loop-place.place []) c.in_ok-value.value _ _ _ c.loop-place-test.true
    (ap (λ ws. get_or ws c.loop-place.place []) c.loop-place.invariant.names)
    (c.in_ok-value.ensures ∙ agree c.loop-place.place c.loop-place-test.true) _ (c.loop-place.invariant.so_far ts agree) c.in_err-assign_at.ensures.ends)
