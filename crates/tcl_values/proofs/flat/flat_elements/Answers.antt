use Rattle.std.proofs.Common.{◌≡◌, ◌<◌, [], ◌∷◌, ◌++◌, List, length, get_or, ap, ◌∙◌, arith}
use Rattle.std.proofs.lemmas.List.{map_push}
use Rattle.tcl_pages.specs.Texts.{Text}
use Rattle.tcl_values.specs.Kept.{Kept, texts, depth_over}
use Rattle.tcl_values.proofs.Depths.{depth_least, depth_pair}
use Rattle.tcl_values.proofs.PairWriting.{flat_pair}
use Rattle.tcl_values.proofs.flat.flat_elements.Goals as goal

pushed : (ks more : List Kept) (k : Kept) (t : Text) → more ≡ ks ++ k ∷ [] → k.text ≡ t → texts more ≡ texts ks ++ t ∷ []
pushed ks more k t m e = ap texts m ∙ map_push (λ (q : Kept). q.text) ks k ∙ ap (λ u. texts ks ++ u ∷ []) e

pub loop-place-init : goal.loop-place-init
loop-place-init c = record {
  so_far = ap texts c.in_ok-elements.ensures.items;
  within = omega (arith, ap depth_over c.in_ok-elements.ensures.items, depth_least c.args.pairs.now.values.items);
}

pub loop-place-preserved : goal.loop-place-preserved
loop-place-preserved c =
    let i = c.loop-place.place in
    let js = c.args.pairs.now.keys.keys in
    let vs = c.args.pairs.now.values.items in
    let j = c.index-keys-place.result in
    let v = c.index-values-place.result in
    let l : i < length js = omega (arith, c.loop-place-test.true, ap length c.as_slice-keys.ensures.keys) in
    let lv : i < length vs = omega (arith, l, c.requires.even) in
    let is_value = c.index-values-place.is ∙ ap (λ ws. get_or ws i v) c.as_slice-values.ensures.value in
    record {
      so_far = flat_pair js vs i j v (texts c.loop-place.elements.items) (texts c.push.new.self.items) _ l c.requires.even
          (c.index-keys-place.is ∙ ap (λ ks. get_or ks i j) c.as_slice-keys.ensures.keys) is_value c.loop-place.invariant.so_far
          (pushed c.loop-place.elements.items _ c.in_ok-element.field-0 j c.in_ok-push.ensures.items (c.in_ok-element.ensures.text))
          (pushed c.push.new.self.items _ c.in_ok-duplicate.field-0 v.text c.in_ok-push-2.ensures.items (ap (λ (k : Kept). k.text) c.in_ok-duplicate.ensures));
      within = depth_pair c.loop-place.elements.items c.push.new.self.items _ vs i c.in_ok-element.field-0 v c.loop-place.invariant.within lv is_value c.in_ok-push.ensures.items (c.in_ok-push-2.ensures.items ∙ ap (λ k. c.push.new.self.items ++ k ∷ []) c.in_ok-duplicate.ensures) c.in_ok-element.ensures.depth;
    }
