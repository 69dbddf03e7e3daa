use Rattle.std.proofs.Common.{◌<◌, ◌≤◌, ◌+◌, length, sym, ap, ◌∙◌, arith}
use Rattle.std.specs.FinMap as map
use Rattle.tcl_values.specs.Kept.{Kept}
use Rattle.tcl_frames.proofs.EditLemmas.{pair_in, pairs_over}
use Rattle.tcl_frames.proofs.edit.put_each.Goals as goal

pub loop-place-preserved : goal.loop-place-preserved
loop-place-preserved c =
    let l : c.loop-place.place + 1 < length c.args.pairs.now = omega (arith, c.loop-place-test.true) in
    let x = c.index-pairs-place.result in
    record {
      within = omega (arith, l);
      rest =
          pair_in (λ (k : Kept). k.text) c.args.pairs.now c.loop-place.place x c.index-pairs-place-in-loop-place.result c.loop-place.elements c.put_noted.new.elements l c.index-pairs-place.is c.index-pairs-place-in-loop-place.is
          (c.in_ok-put_noted.ensures.done ∙ ap (λ t. map.insert c.loop-place.elements t c.in_ok-value.value) c.in_ok-name.ensures ∙ ap (λ t. map.insert c.loop-place.elements x.text t) c.in_ok-value.ensures)
          ∙ c.loop-place.invariant.rest;
      noted = c.put_noted.ensures.noted ∙ c.loop-place.invariant.noted;
    }

pub returns-clause-done : goal.returns-clause-done
returns-clause-done c =
    let l : length c.args.pairs.now ≤ c.loop-place.place + 1 = omega (arith, c.loop-place-test.false) in
    sym (pairs_over (λ (k : Kept). k.text) c.args.pairs.now c.loop-place.place c.loop-place.elements l) ∙ c.loop-place.invariant.rest
