use Rattle.std.proofs.Common.{[], get_or, ap, ◌∙◌}
use Rattle.std.proofs.lemmas.Result.{err_from_is_err_and}
use Rattle.std.specs.Str.{chars}
use Rattle.tcl_vars.proofs.UnsetLemmas.{unset_one, unset_stops}
use Rattle.tcl_vars.proofs.unsetting.unset_names.Goals as goal

pub loop-place-preserved : goal.loop-place-preserved
loop-place-preserved c = record {
  words = c.text_at.ensures.same ∙ c.loop-place.invariant.words;
  so_far =
      unset_one c.args.words.now c.loop-place.place (chars c.as_str.result.now) _ _ _ _ c.loop-place-test.true
      (ap chars c.as_str.ensures.value ∙ c.in_ok-name.ensures.text ∙ ap (λ ws. get_or ws c.loop-place.place []) c.loop-place.invariant.words) c.loop-place.invariant.so_far c.in_ok-remove.ensures.ends;
}

pub returns-in_err-remove : goal.returns-in_err-remove
returns-in_err-remove c =
    let p = err_from_is_err_and c.from_residual-in_err-remove.result c.from_residual-in_err-remove.ensures.1 in
    rw (p.1, p.2)
    (unset_stops c.args.words.now c.loop-place.place (chars c.as_str.result.now) _ _ _ _ c.loop-place-test.true
    (ap chars c.as_str.ensures.value ∙ c.in_ok-name.ensures.text ∙ ap (λ ws. get_or ws c.loop-place.place []) c.loop-place.invariant.words) _ c.loop-place.invariant.so_far c.in_err-remove.ensures.ends)
