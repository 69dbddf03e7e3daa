use Rattle.std.proofs.Common.{◌≤◌, ◌-◌, length, ap, ◌∙◌, arith}
use Rattle.std.specs.Str.{chars}
use Rattle.tcl_lists.specs.WordAt.{word}
use Rattle.tcl_lists.proofs.OptionLemmas.{option_goes_on}
use Rattle.tcl_pages.specs.Sorting.{with_sort_option}
use Rattle.tcl_lists.proofs.sort.options_of.Goals as goal

pub loop-place-preserved : goal.loop-place-preserved
loop-place-preserved c =
    let within : length c.args.words.now - 1 ≤ length c.args.words.now = omega arith in
    record {
      same = c.text_at.ensures.same ∙ c.loop-place.invariant.same;
      read =
          option_goes_on with_sort_option c.loop-place.options c.in_ok-options.options (length c.args.words.now - 1) c.args.words.now c.loop-place.place (chars c.as_str.result.now) c.loop-place-test.true within
          (ap chars c.as_str.ensures.value ∙ c.in_ok-text.ensures.text ∙ ap (λ ws. word ws c.loop-place.place) c.loop-place.invariant.same) c.in_ok-options.ensures ∙ c.loop-place.invariant.read;
    }
