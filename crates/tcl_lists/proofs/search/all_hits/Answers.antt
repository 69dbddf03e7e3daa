use Rattle.std.proofs.Common.{ap, sym, ◌∙◌}
use Rattle.tcl_lists.proofs.SearchLemmas.{hit_more, no_hit}
use Rattle.tcl_lists.proofs.search.all_hits.Goals.{then-wanted+in_ok-hit+in_ok-push, else-wanted}
use Rattle.tcl_lists.proofs.search.all_hits.Goals as goal

pub loop-place-preserved : goal.loop-place-preserved
loop-place-preserved c =
    let fits = sym c.in_ok-wanted.ensures in
    elim c.if-wanted.branch [
      | then-wanted+in_ok-hit+in_ok-push w ↦
          hit_more c.args.options c.args.pattern.now c.args.elements.now c.loop-place.place c.index-elements-place.result c.loop-place.hits.items _ c.if-wanted.hits.items _ (ap (λ v. v.items) w.hits-is ∙ w.in_ok-push.ensures.items)
          c.loop-place-test.true c.index-elements-place.is (fits ∙ w.if-wanted.true) w.in_ok-hit.ensures c.loop-place.invariant
      | else-wanted w ↦
          no_hit c.args.options c.args.pattern.now c.args.elements.now c.loop-place.place c.index-elements-place.result c.loop-place.hits.items _ c.if-wanted.hits.items (ap (λ v. v.items) w.hits-is)
          c.loop-place-test.true c.index-elements-place.is (fits ∙ w.if-wanted.false) c.loop-place.invariant
    ]
