use Rattle.std.proofs.Common.{◌<◌, length, get_or, ap, ◌∙◌, arith}
use Rattle.tcl_pages.specs.Dictionaries.{put_key, values_of}
use Rattle.tcl_values.specs.Kept.{Kept}
use Rattle.tcl_arguments.proofs.Items.{text_at, keys_length, values_length}
use Rattle.tcl_dicts.proofs.DictWords.{put_more}
use Rattle.tcl_dicts.proofs.build.with_pairs.Goals as goal

pub loop-place-preserved : goal.loop-place-preserved
loop-place-preserved c =
    let i = c.loop-place.place in
    let ps = c.args.more.now in
    let js = c.keys-keys.result.now in
    let j = c.index-keys-place.result in
    let v = c.index-values-place.result in
    let l : i < length ps = omega (arith, c.loop-place-test.true, ap length c.keys-keys.ensures, keys_length ps) in
    put_more c.loop-place.found c.in_ok-found.found ps i j v.text l
    (c.index-keys-place.is ∙ ap (λ ts. get_or ts i j) c.keys-keys.ensures)
    (text_at (λ (q : Kept). q.text) c.values-values.result.now (values_of ps) i v (omega (arith, l, values_length ps)) c.values-values.ensures c.index-values-place.is)
    (c.in_ok-found.ensures ∙ (λ n. put_key c.loop-place.found (c.in_ok-clone.ensures.cases n) (c.in_ok-copy.ensures n)))
    ∙ c.loop-place.invariant
