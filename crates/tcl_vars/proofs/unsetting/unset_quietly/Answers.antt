use Rattle.std.proofs.Common.{[], get_or, ap, ◌∙◌}
use Rattle.std.specs.Str.{chars}
use Rattle.tcl_vars.proofs.UnsetLemmas.{unset_one_quietly}
use Rattle.tcl_vars.proofs.unsetting.unset_quietly.Goals as goal

pub loop-place-preserved : goal.loop-place-preserved
loop-place-preserved c = record {
  words = c.text_at.ensures.same ∙ c.loop-place.invariant.words;
  so_far =
      unset_one_quietly c.args.words.now c.loop-place.place (chars c.as_str.result.now) _ _ _ _ c.loop-place-test.true
      (ap chars c.as_str.ensures.value ∙ c.in_ok-name.ensures.text ∙ ap (λ ws. get_or ws c.loop-place.place []) c.loop-place.invariant.words) c.loop-place.invariant.so_far c.remove_if.ensures;
}
