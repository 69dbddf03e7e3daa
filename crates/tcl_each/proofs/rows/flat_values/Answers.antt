use Rattle.std.proofs.Common.{◌<◌, length, get_or, ap, ◌∙◌, arith}
use Rattle.tcl_pages.specs.Dictionaries.{values_of}
use Rattle.tcl_values.specs.Kept.{Kept}
use Rattle.tcl_arguments.proofs.Items.{text_at, keys_length, values_length}
use Rattle.tcl_each.proofs.LoopListLemmas.{pair_pushed}
use Rattle.tcl_each.proofs.rows.flat_values.Goals as goal

pub loop-place-preserved : goal.loop-place-preserved
loop-place-preserved c =
    let i = c.loop-place.place in
    let ps = c.args.pairs.now in
    let js = c.keys-keys.result.now in
    let j = c.index-keys-place.result in
    let v = c.index-values-place.result in
    let l : i < length ps = omega (arith, c.loop-place-test.true, ap length c.keys-keys.ensures, keys_length ps) in
    pair_pushed c.loop-place.flat.items c.push.new.self.items c.push-in-loop-place.new.self.items ps i j v.text c.in_ok-value.field-0 c.in_ok-copy.field-0 l
    (c.index-keys-place.is ∙ ap (λ ts. get_or ts i j) c.keys-keys.ensures)
    (text_at (λ (q : Kept). q.text) c.values-values.result.now (values_of ps) i v (omega (arith, l, values_length ps)) c.values-values.ensures c.index-values-place.is)
    c.in_ok-value.ensures c.in_ok-copy.ensures c.in_ok-push.ensures.items c.in_ok-push-2.ensures.items c.loop-place.invariant
