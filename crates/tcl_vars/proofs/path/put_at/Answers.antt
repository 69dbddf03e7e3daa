use Rattle.std.proofs.Common.{◌≡◌, take, ap, sym, subst, ◌∙◌}
use Rattle.std.proofs.lemmas.Result.{err_from_is_err_and}
use Rattle.tcl_lists.proofs.IndexLemmas.{stops_same}
use Rattle.tcl_pages.specs.Lists.{element_set}
use Rattle.tcl_values.specs.Changes.{with_under}
use Rattle.tcl_values.specs.Lists.{Leaves}
use Rattle.tcl_vars.specs.Way.{places_of, put}
use Rattle.tcl_vars.proofs.PlaceLemmas.{places_set, places_stop}
use Rattle.tcl_vars.proofs.WayLemmas.{put_only}
use Rattle.tcl_vars.proofs.path.put_at.Goals as goal

pub returns-then-count-eq1-clause-done : goal.returns-then-count-eq1-clause-done
returns-then-count-eq1-clause-done c =
    subst (λ m. Leaves c.put.new.list m c.put.result)
    (ap (λ t. put t c.in_ok-place.place c.args.new) c.place_by.ensures.same
    ∙ put_only c.args.dialect c.put_near.new.list c.in_ok-place.place c.args.count c.args.indices.now c.args.new c.if-count-eq1.true c.requires c.in_ok-place.ensures.place
    ∙ ap (λ t. element_set c.args.dialect t (take c.args.count c.args.indices.now) c.args.new) (c.in_ok-put_near.ensures.same c.if-branch.false))
    c.put.ensures.done

pub returns-in_err-places-clause-done : goal.returns-in_err-places-clause-done
returns-in_err-places-clause-done c =
    let p = err_from_is_err_and c.from_residual-in_err-places.result c.from_residual-in_err-places.ensures.1 in
    rw (p.1, p.2)
    (places_stop c.in_err-places.field-0.0 c.args.dialect c.args.value.now (take c.args.count c.args.indices.now) c.args.new
    (stops_same c.in_err-places.field-0.0 _ _ (λ n. places_of c.args.dialect (c.place_by-2.ensures.same n) (take c.args.count (c.place_by-2.ensures.indices n))) c.in_err-places.ensures.places))

pub returns-clause-done : goal.returns-clause-done
returns-clause-done c =
    let same : places_of c.args.dialect c.place_by-2.new.list (take c.args.count c.place_by-2.new.indices) ≡ places_of c.args.dialect c.args.value.now (take c.args.count c.args.indices.now) =
    λ n. places_of c.args.dialect (c.place_by-2.ensures.same n) (take c.args.count (c.place_by-2.ensures.indices n)) in
    subst (λ m. Leaves c.put_item_under.new.self m c.put_item_under.result)
    (ap (λ t. with_under t c.in_ok-places.places.items c.args.new) (c.places_of.ensures.same ∙ c.place_by-2.ensures.same)
    ∙ places_set c.args.dialect c.args.value.now (take c.args.count c.args.indices.now) c.args.new c.in_ok-places.places.items (sym same ∙ c.in_ok-places.ensures.places))
    c.put_item_under.ensures.done
