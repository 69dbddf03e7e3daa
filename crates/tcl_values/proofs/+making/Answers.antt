use Rattle.std.proofs.Common.{◌≡◌, ◌<◌, ◌+◌, ◌*◌, [], ◌∷◌, length, length-append, sym, ap, subst, ◌∙◌, refl, arith, rules}
use Rattle.std.proofs.lemmas.Result.{err_from_is_err_and}
use Rattle.tcl_values.specs.Changes.{made, made_under, room}
use Rattle.tcl_values.specs.Kept.{texts}
use Rattle.tcl_values.specs.Lists.{Leaves}
use Rattle.tcl_values.specs.Paired.{zipped}
use Rattle.tcl_values.specs.declared.making.Making.TheVariants as making
use Rattle.tcl_values.proofs.Changed.{begun_is, begun_stops, changed_there, depth_there, depth_changed, low_enough}
use Rattle.tcl_values.proofs.ChangedPairs.{some_done, some_kept, none_stops, none_done, made_or, set_last}
use Rattle.tcl_values.proofs.PairKept.{deeper_set, put_kept, even_more}
use Rattle.tcl_values.proofs.PairPlaces.{put_behind, alike_at, alike_none}
use Rattle.tcl_values.proofs.+making.Invariants.{keys_in}
use Rattle.tcl_values.proofs.+making.Goals as goal

pub making::made_empty-returns-in_err-make-clause-text : goal.making::made_empty-returns-in_err-make-clause-text
making::made_empty-returns-in_err-make-clause-text t c =
    let p = err_from_is_err_and c.from_residual.result c.from_residual.ensures.1 in
    rw (p.1, p.2) (begun_stops (made c.args.making) _ _ c.empty-element.ensures.text c.in_err-make.ensures.done)

pub making::made_empty-returns-clause-text : goal.making::made_empty-returns-clause-text
making::made_empty-returns-clause-text t c = begun_is (made c.args.making) _ _ c.empty-element.ensures.text c.in_ok-make.ensures.done

pub making::change_at-make-requires : goal.making::change_at-make-requires
making::change_at-make-requires t c =
    (search rules, (low_enough c.args.own.now.values.items c.args.place c.index_mut.result.now c.args.own.now.depth c.requires.place c.index_mut.ensures.value c.requires.deeper c.requires.limit, c.requires.room))

pub making::change_at-overflow_add-depth : goal.making::change_at-overflow_add-depth
making::change_at-overflow_add-depth t c =
    let was = low_enough c.args.own.now.values.items c.args.place c.index_mut.result.now c.args.own.now.depth c.requires.place c.index_mut.ensures.value c.requires.deeper c.requires.limit in
    let is = c.depth-depth.ensures ∙ depth_there c.args.own.now.values.items _ c.args.place c.make.new.self c.index.result.now c.requires.place refl c.index.ensures in
    let low : c.depth-depth.result < 64 = omega (arith, is, was, c.make.ensures.depth, c.requires.room) in
    search rules

pub element::Element::make-put_under-requires : goal.element::Element::make-put_under-requires
element::Element::make-put_under-requires t c =
    let falls : 7 * length c.in-Under.keys.items < 7 * keys_in c.args.making + 1 = omega (arith, ap keys_in c.in-Under.is) in
    (search rules, (c.requires.limit, omega (arith, ap room c.in-Under.is, c.requires.room)))

pub element::Element::put_under-change_key-requires : goal.element::Element::put_under-change_key-requires
element::Element::put_under-change_key-requires t c =
    let fewer : length c.args.keys.items ≡ length c.pop.new.self.items + 1 = omega (arith, ap length c.in-Some.ensures.items, length-append c.pop.new.self.items (c.in-Some.key ∷ [])) in
    let falls : 7 * length c.pop.new.self.items + 6 < 7 * length c.args.keys.items = omega (arith, fewer) in
    (search rules, (c.requires.limit, omega (arith, fewer, c.requires.room)))

pub making::change_at-returns-clause-done : goal.making::change_at-returns-clause-done
making::change_at-returns-clause-done t c = changed_there (made c.args.making) c.args.own.now.values.items c.args.place c.index_mut.result.now c.make.new.self c.requires.place c.index_mut.ensures.value c.in_ok-make.ensures.done

pub making::change_at-returns-clause-deeper : goal.making::change_at-returns-clause-deeper
making::change_at-returns-clause-deeper t c =
    deeper_set c.args.own.now.values.items _ c.args.place c.make.new.self c.args.own.now.depth _ _ c.requires.deeper refl
    (c.depth-depth.ensures ∙ depth_there c.args.own.now.values.items _ c.args.place c.make.new.self c.index.result.now c.requires.place refl c.index.ensures) c.max-own.ensures

pub making::change_own-returns-in_err-value-in-None-clause-done : goal.making::change_own-returns-in_err-value-in-None-clause-done
making::change_own-returns-in_err-value-in-None-clause-done t c =
    let p = err_from_is_err_and c.from_residual.result c.from_residual.ensures.1 in
    rw (p.1, p.2) (none_stops c.args.key c.args.own.now.keys.keys c.args.own.now.values.items c.requires.kept.even (made_under c.args.making c.args.key) _ (alike_none c.args.own.now.keys.keys c.as_str.ensures c.in-None.ensures.found) c.in_err-value-in-None.ensures.text)

pub making::change_own-returns-in-Some-clause-done : goal.making::change_own-returns-in-Some-clause-done
making::change_own-returns-in-Some-clause-done t c =
    let l : c.in-Some.place < length c.args.own.now.values.items = omega (arith, c.in-Some.ensures.within, c.requires.kept.even) in
    some_done c.args.key c.args.own.now.keys.keys c.args.own.now.values.items c.requires.kept.even (made_under c.args.making c.args.key) c.change_at.result c.change_at.new.own.keys.keys c.change_at.new.own.values.items c.in-Some.place (alike_at c.args.own.now.keys.keys c.in-Some.place c.as_str.ensures c.in-Some.ensures.index) l c.change_at.ensures.keys c.change_at.ensures.done

pub making::change_own-returns-in-Some-clause-kept : goal.making::change_own-returns-in-Some-clause-kept
making::change_own-returns-in-Some-clause-kept t c =
    let l : c.in-Some.place < length c.args.own.now.values.items = omega (arith, c.in-Some.ensures.within, c.requires.kept.even) in
    some_kept c.change_at.result (made_under c.args.making c.args.key) c.args.own.now c.change_at.new.own c.args.key c.requires.kept
    (some_done c.args.key c.args.own.now.keys.keys c.args.own.now.values.items c.requires.kept.even (made_under c.args.making c.args.key) c.change_at.result c.change_at.new.own.keys.keys c.change_at.new.own.values.items c.in-Some.place (alike_at c.args.own.now.keys.keys c.in-Some.place c.as_str.ensures c.in-Some.ensures.index) l c.change_at.ensures.keys c.change_at.ensures.done)
    c.change_at.ensures.same c.change_at.ensures.keys c.change_at.ensures.text c.change_at.ensures.same_text c.change_at.ensures.size (omega (arith, c.change_at.ensures.depth, c.requires.kept.limit, c.requires.room)) c.change_at.ensures.deeper

pub making::change_own-returns-in_ok-add_pair-in-None-clause-done : goal.making::change_own-returns-in_ok-add_pair-in-None-clause-done
making::change_own-returns-in_ok-add_pair-in-None-clause-done t c =
    none_done c.args.key c.args.own.now.keys.keys c.args.own.now.values.items c.requires.kept.even (made_under c.args.making c.args.key) _ c.in_ok-value-in-None.value _ _ (alike_none c.args.own.now.keys.keys c.as_str.ensures c.in-None.ensures.found) refl
    c.in_ok-value-in-None.ensures.text c.in_ok-add_pair-in-None.ensures.keys c.in_ok-add_pair-in-None.ensures.values

pub making::change_own-returns-in_ok-add_pair-in-None-clause-kept : goal.making::change_own-returns-in_ok-add_pair-in-None-clause-kept
making::change_own-returns-in_ok-add_pair-in-None-clause-kept t c =
    put_kept c.args.own.now _ c.args.key c.in_ok-value-in-None.value.text c.requires.kept (omega (arith, c.in_ok-add_pair-in-None.ensures.depth, c.requires.kept.limit, c.in_ok-value-in-None.ensures.depth, c.requires.room)) c.add_pair.ensures.deeper
    (even_more c.args.own.now.keys.keys _ c.args.own.now.values.items _ _ c.in_ok-value-in-None.value c.requires.kept.even c.in_ok-add_pair-in-None.ensures.keys c.in_ok-add_pair-in-None.ensures.values)
    c.in_ok-add_pair-in-None.ensures.text
    ((λ n. zipped (c.in_ok-add_pair-in-None.ensures.keys n) (texts (c.in_ok-add_pair-in-None.ensures.values n)))
    ∙ put_behind c.args.key c.args.own.now.keys.keys c.args.own.now.values.items c.requires.kept.even _ c.in_ok-value-in-None.value (alike_none c.args.own.now.keys.keys c.as_str.ensures c.in-None.ensures.found) refl)

pub making::change_at-returns-clause-depth : goal.making::change_at-returns-clause-depth
making::change_at-returns-clause-depth t c =
    depth_changed c.args.own.now.values.items c.args.place c.index_mut.result.now c.args.own.now.depth _ _ _ _ c.requires.place c.index_mut.ensures.value c.requires.deeper c.make.ensures.depth
    (c.depth-depth.ensures ∙ depth_there c.args.own.now.values.items _ c.args.place c.make.new.self c.index.result.now c.requires.place refl c.index.ensures) c.max-own.ensures

pub element::Element::put_under-returns-in-Some-clause-done : goal.element::Element::put_under-returns-in-Some-clause-done
element::Element::put_under-returns-in-Some-clause-done t c =
    let m = making.Under c.pop.new.self c.args.value in
    let key = c.in-Some.key in
    subst (λ r. Leaves c.change_key.new.self.text r c.change_key.result) (sym (set_last c.args.self.now.text c.args.value.text c.args.keys.items c.pop.new.self.items c.in-Some.key (made_under m key) c.in-Some.ensures.items (made_or m key refl))) c.change_key.ensures.done

pub element::Element::make-take_under-requires : goal.element::Element::make-take_under-requires
element::Element::make-take_under-requires t c =
    let falls : 7 * length c.in-Without.keys.items < 7 * keys_in c.args.making + 1 = omega (arith, ap keys_in c.in-Without.is) in
    (search rules, (c.requires.limit, omega (arith, ap room c.in-Without.is, c.requires.room)))

pub element::Element::take_under-change_key-requires : goal.element::Element::take_under-change_key-requires
element::Element::take_under-change_key-requires t c =
    let fewer : length c.args.keys.items ≡ length c.pop.new.self.items + 1 = omega (arith, ap length c.in-Some.ensures.items, length-append c.pop.new.self.items (c.in-Some.key ∷ [])) in
    let falls : 7 * length c.pop.new.self.items + 6 < 7 * length c.args.keys.items = omega (arith, fewer) in
    (search rules, (c.requires.limit, omega (arith, fewer, c.requires.room)))
