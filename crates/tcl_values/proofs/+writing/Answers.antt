use Rattle.std.proofs.Common.{◌<◌, ◌++◌, ◌==◌, length, get_or, sym, ap, ◌∙◌, ◌+◌, arith}
use Rattle.std.specs.Str.{chars}
use Rattle.std.specs.String.{string_bytes}
use Rattle.std.proofs.lemmas.Bool.{ne_eqb}
use Rattle.std.proofs.lemmas.List.{length-map}
use Rattle.std.proofs.lemmas.Str.{chars-nil}
use Rattle.tcl_list.specs.Written.{appended, written}
use Rattle.tcl_pages.specs.DictPages.{dictionary}
use Rattle.tcl_values.specs.Kept.{Kept, texts}
use Rattle.tcl_values.specs.Shape.{elements, pairs_in, shared_text, shown}
use Rattle.tcl_values.proofs.Behind.{item_behind, pair_behind, list_behind, pairs_behind}
use Rattle.tcl_values.proofs.PairKept.{bare_text}
use Rattle.tcl_values.proofs.PairPlaces.{count_in}
use Rattle.tcl_values.proofs.Unrepeated.{none_of}
use Rattle.tcl_values.proofs.+writing.Goals as goal

pub nested::push_items-loop-item-preserved : goal.nested::push_items-loop-item-preserved
nested::push_items-loop-item-preserved t c =
    let i = c.loop-item.item-index in
    record {
      so_far = item_behind (chars (string_bytes c.args.text.now)) (chars (string_bytes c.loop-item.text)) _ c.args.row.now.items.items i c.item-item.result c.loop-item.first
          (omega (arith, c.loop-item-test.true, ap length c.deref-item-items.ensures.value)) (c.item-item.is ∙ ap (λ xs. get_or xs i c.item-item.result) c.deref-item-items.ensures.value)
          c.loop-item.invariant.so_far c.loop-item.invariant.at_first c.in_ok-push_item.ensures;
      at_first = sym (ne_eqb (i + 1) 0 (λ z. omega arith));
    }

pub nested::push_pairs-loop-place-preserved : goal.nested::push_pairs-loop-place-preserved
nested::push_pairs-loop-place-preserved t c =
    let i = c.loop-place.place in
    let js = c.args.pairs.now.keys.keys in
    let vs = c.args.pairs.now.values.items in
    let j = c.index-keys-place.result in
    let v = c.index-values-place.result in
    let l : i < length js = omega (arith, c.loop-place-test.true, ap length c.as_slice-keys.ensures.keys) in
    pair_behind (chars (string_bytes c.args.text.now)) (chars (string_bytes c.loop-place.text)) (chars (string_bytes c.append_element.new.text)) _ js vs i j v l c.requires
    (c.index-keys-place.is ∙ ap (λ ks. get_or ks i j) c.as_slice-keys.ensures.keys) (c.index-values-place.is ∙ ap (λ ws. get_or ws i v) c.as_slice-values.ensures.value)
    c.loop-place.invariant
    (c.in_ok-append_element.ensures.written ∙ ap (λ u. chars (string_bytes c.loop-place.text) ++ appended (i == 0) u) c.as_str.ensures)
    c.in_ok-push_item.ensures

pub items::write_text-returns : goal.items::write_text-returns
items::write_text-returns t c = c.in_ok-push_items.ensures ∙ ap (λ u. u ++ written (texts (elements c.args.row.now))) (ap chars c.new-text.ensures.bytes ∙ chars-nil)

pub pairs::write_pairs-returns : goal.pairs::write_pairs-returns
pairs::write_pairs-returns t c = c.in_ok-push_pairs.ensures ∙ ap (λ u. u ++ dictionary (pairs_in c.args.pairs.now)) (ap chars c.new-text.ensures.bytes ∙ chars-nil)

pub nested::push_row-returns-then-len-gt1 : goal.nested::push_row-returns-then-len-gt1
nested::push_row-returns-then-len-gt1 t c =
    let row = c.args.row.now in
    let front = chars (string_bytes c.args.text.now) in
    list_behind front (chars (string_bytes c.push_open.new.text)) (chars (string_bytes c.push_items.new.text)) _ (texts (elements row)) c.args.first
    (omega (arith, c.if-len-gt1.true, c.len.ensures, length-map (elements row) (λ (k : Kept). k.text))) c.in_ok-push_open.ensures c.in_ok-push_items.ensures c.in_ok-push.ensures.ok
    ∙ ap (λ u. front ++ appended c.args.first u) (sym (ap (λ u. shown (shared_text u) (elements row)) (none_of row.text c.if-is_none.ensures)))

pub nested::push_dict-returns-then-len-gt0 : goal.nested::push_dict-returns-then-len-gt0
nested::push_dict-returns-then-len-gt0 t c =
    let pairs = c.args.pairs.now in
    let front = chars (string_bytes c.args.text.now) in
    pairs_behind front (chars (string_bytes c.push_open.new.text)) (chars (string_bytes c.push_pairs.new.text)) _ (pairs_in pairs) c.args.first
    (omega (arith, c.if-len-gt0.true, c.len.ensures, count_in pairs.keys.keys pairs.values.items c.requires.even)) c.in_ok-push_open.ensures c.in_ok-push_pairs.ensures c.in_ok-push.ensures.ok
    ∙ ap (λ u. front ++ appended c.args.first u) (sym (bare_text pairs (none_of pairs.text c.if-is_none.ensures)))
