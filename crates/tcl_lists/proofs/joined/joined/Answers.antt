use Rattle.std.proofs.Common.{ap, ◌∙◌, refl}
use Rattle.std.proofs.lemmas.Str.{chars-nil}
use Rattle.std.specs.Str.{chars}
use Rattle.tcl_pages.specs.Lists.{trimmed_end}
use Rattle.tcl_lists.specs.WordAt.{word}
use Rattle.tcl_lists.proofs.Joining.{concat_step}
use Rattle.tcl_lists.proofs.joined.joined.Goals as goal

pub loop-place-init : goal.loop-place-init
loop-place-init c = record { same = refl; joined = ap chars c.new-joined.ensures.bytes ∙ chars-nil }

pub loop-place-preserved : goal.loop-place-preserved
loop-place-preserved c = record {
  same = c.text_at.ensures.same ∙ c.loop-place.invariant.same;
  joined =
      concat_step c.args.words.now c.loop-place.place (chars c.as_str.result.now) _ _ _ c.loop-place-test.true
      (ap chars c.as_str.ensures.value ∙ c.in_ok-text.ensures.text ∙ ap (λ ws. word ws c.loop-place.place) c.loop-place.invariant.same)
      (c.trimmed_end.ensures ∙ ap trimmed_end c.skip_space.ensures) c.loop-place.invariant.joined c.in_ok-push_word.ensures;
}
