use Rattle.std.proofs.Common.{◌≡◌, IfOk, sym, subst, ◌∙◌}
use Rattle.tcl_lists.proofs.SearchLemmas.{first_is, first_later, no_place}
use Rattle.tcl_lists.proofs.search.first_hit.Goals as goal

pub returns-then-wanted : goal.returns-then-wanted
returns-then-wanted c =
    let fits = sym c.in_ok-wanted.ensures ∙ c.if-wanted.true in
    subst (λ u. IfOk c.hit.result (λ v. v ≡ u))
    (first_is c.args.options c.args.pattern.now c.args.elements.now c.loop-place.place c.index-elements-place.result _ c.args.options.inline c.loop-place-test.true c.index-elements-place.is fits c.loop-place.invariant)
    c.hit.ensures

pub loop-place-preserved : goal.loop-place-preserved
loop-place-preserved c =
    let fits = sym c.in_ok-wanted.ensures ∙ c.if-wanted.false in
    first_later c.args.options c.args.pattern.now c.args.elements.now c.loop-place.place c.index-elements-place.result _ c.args.options.inline c.loop-place-test.true c.index-elements-place.is fits c.loop-place.invariant

pub returns-else-options : goal.returns-else-options
returns-else-options c =
    no_place c.args.options c.args.pattern.now c.args.elements.now c.loop-place.place _ _ c.args.options.inline c.loop-place-test.false c.if-options.false c.loop-place.invariant c.of_int.ensures
