use Rattle.std.proofs.Common.{◌≡◌, ◌<◌, reverse, slice_set, ap, refl, ◌∙◌, arith, rules}
use Rattle.std.proofs.lemmas.Option.{slice_get_read}
use Rattle.std.proofs.lemmas.Result.{err_from_is_err_and}
use Rattle.tcl_values.specs.Changes.{with_under}
use Rattle.tcl_values.specs.Kept.{texts, depth_over}
use Rattle.tcl_values.proofs.Changed.{begun_is, begun_stops, depth_there, low_enough}
use Rattle.tcl_values.proofs.Depths.{set_higher, set_lower, set_within}
use Rattle.tcl_values.proofs.Joined.{reads_written}
use Rattle.tcl_values.proofs.Placed.{placed_there, depth_placed, depth_behind}
use Rattle.tcl_values.proofs.+placing.Goals as goal

pub placing::begun-returns-in_err-place_under-clause-text : goal.placing::begun-returns-in_err-place_under-clause-text
placing::begun-returns-in_err-place_under-clause-text t c =
    let p = err_from_is_err_and c.from_residual.result c.from_residual.ensures.1 in
    rw (p.1, p.2) (begun_stops (λ t. with_under t (reverse c.args.places.items) c.args.new.text) _ _ c.empty-element.ensures.text c.in_err-place_under.ensures.done)

pub placing::begun-returns-clause-text : goal.placing::begun-returns-clause-text
placing::begun-returns-clause-text t c = begun_is (λ t. with_under t (reverse c.args.places.items) c.args.new.text) _ _ c.empty-element.ensures.text c.in_ok-place_under.ensures.done

pub placing::place_own-returns-clause-depth : goal.placing::place_own-returns-clause-depth
placing::place_own-returns-clause-depth t c =
    depth_behind c.args.own.now.items.items _ c.in_ok-element.element _ _ _ c.in_ok-add.ensures.added c.requires.kept.exact c.add.ensures.kept.exact c.in_ok-element.ensures.depth

pub placing::place_there-overflow_add-before : goal.placing::place_there-overflow_add-before
placing::place_there-overflow_add-before t c =
    let was = low_enough c.args.own.now.items.items c.args.place c.index.result.now c.args.own.now.depth c.requires.place c.index.ensures (omega (arith, c.requires.kept.exact)) c.requires.kept.limit in
    let low : c.depth-before.result < 64 = omega (arith, c.depth-before.ensures, was) in
    search rules

pub placing::place_there-place_under-requires : goal.placing::place_there-place_under-requires
placing::place_there-place_under-requires t c =
    (search rules, (low_enough c.args.own.now.items.items c.args.place c.index_mut.result.now c.args.own.now.depth c.requires.place c.index_mut.ensures.value (omega (arith, c.requires.kept.exact)) c.requires.kept.limit, c.requires.room))

pub placing::place_there-overflow_add-now : goal.placing::place_there-overflow_add-now
placing::place_there-overflow_add-now t c =
    let was = low_enough c.args.own.now.items.items c.args.place c.index_mut.result.now c.args.own.now.depth c.requires.place c.index_mut.ensures.value (omega (arith, c.requires.kept.exact)) c.requires.kept.limit in
    let is = c.depth-now.ensures ∙ depth_there c.args.own.now.items.items _ c.args.place c.place_under.new.self c.index-2.result.now c.requires.place refl c.index-2.ensures in
    let low : c.depth-now.result < 64 = omega (arith, is, was, c.place_under.ensures.depth, c.requires.room) in
    search rules

pub placing::place_there-depth_after-own-requires-clause-higher : goal.placing::place_there-depth_after-own-requires-clause-higher
placing::place_there-depth_after-own-requires-clause-higher t c =
    set_higher c.args.own.now.items.items _ c.args.place c.place_under.new.self _ _ c.requires.place c.deref.ensures.value c.requires.kept.exact
    (c.depth-now.ensures ∙ depth_there c.args.own.now.items.items _ c.args.place c.place_under.new.self c.index-2.result.now c.requires.place refl c.index-2.ensures)

pub placing::place_there-depth_after-own-requires-clause-lower : goal.placing::place_there-depth_after-own-requires-clause-lower
placing::place_there-depth_after-own-requires-clause-lower t c =
    set_lower c.args.own.now.items.items _ c.args.place c.place_under.new.self c.index.result.now _ _ _
    (slice_get_read c.args.own.now.items.items _ c.args.place c.index.result.now refl c.requires.place c.index.ensures) c.deref.ensures.value c.requires.kept.exact
    (c.depth-now.ensures ∙ depth_there c.args.own.now.items.items _ c.args.place c.place_under.new.self c.index-2.result.now c.requires.place refl c.index-2.ensures) c.depth-before.ensures

pub placing::place_there-depth_after-own-requires-clause-limit : goal.placing::place_there-depth_after-own-requires-clause-limit
placing::place_there-depth_after-own-requires-clause-limit t c =
    let was = low_enough c.args.own.now.items.items c.args.place c.index_mut.result.now c.args.own.now.depth c.requires.place c.index_mut.ensures.value (omega (arith, c.requires.kept.exact)) c.requires.kept.limit in
    set_within c.args.own.now.items.items _ c.args.place c.place_under.new.self _ c.deref.ensures.value c.requires.kept.exact c.requires.kept.limit (omega (arith, was, c.place_under.ensures.depth, c.requires.room))

pub placing::place_there-returns-clause-done : goal.placing::place_there-returns-clause-done
placing::place_there-returns-clause-done t c =
    placed_there (λ t. with_under t (reverse c.args.places.items) c.args.new.text) c.args.own.now.items.items c.args.place c.index_mut.result.now c.place_under.new.self c.requires.place c.index_mut.ensures.value c.in_ok-place_under.ensures.done

pub placing::place_there-returns-clause-depth : goal.placing::place_there-returns-clause-depth
placing::place_there-returns-clause-depth t c =
    depth_placed c.args.own.now.items.items _ c.args.place c.index_mut.result.now c.place_under.new.self _ _ _ c.requires.place c.index_mut.ensures.value c.deref.ensures.value c.requires.kept.exact c.depth_after-own.ensures c.place_under.ensures.depth

pub placing::place_there-returns-clause-kept : goal.placing::place_there-returns-clause-kept
placing::place_there-returns-clause-kept t c =
    let ks = c.args.own.now.items.items in
    let now = slice_set ks c.args.place c.place_under.new.self in
    let was = low_enough ks c.args.place c.index_mut.result.now c.args.own.now.depth c.requires.place c.index_mut.ensures.value (omega (arith, c.requires.kept.exact)) c.requires.kept.limit in
    let exact : c.depth_after-own.result ≡ depth_over now = c.depth_after-own.ensures ∙ ap depth_over c.deref.ensures.value in
    record {
      limit = omega (arith, exact, set_within ks now c.args.place c.place_under.new.self _ refl c.requires.kept.exact c.requires.kept.limit (omega (arith, was, c.place_under.ensures.depth, c.requires.room)));
      exact = exact;
      reading = reads_written (texts now);
      beside = tt;
      lower = tt;
    }
