-- A text in a list or under a key that is replaced by the list that it is read as.
use Rattle.std.proofs.Common.{◌≡◌, ℕ, ◌≤◌, List, Option, None, Some, Ok, IfSome, max, sym, subst, ap, ◌∙◌, arith, get_or, slice_get, slice_set}
use Rattle.std.proofs.lemmas.Option.{get_or_from_slice_get}
use Rattle.std.specs.declared.alloc.Global.{Global}
use Rattle.std.specs.declared.rc.Rc.{Rc}
use Rattle.tcl_list.specs.Elements.{elements_of}
use Rattle.tcl_values.specs.Kept.{Kept, texts, depth_over}
use Rattle.tcl_values.specs.Shape.{elements, items_text, pairs_text, shared_text, shown, AreKept, ArePaired, ArePairsRead}
use Rattle.tcl_values.specs.declared.element.Items.{Items}
use Rattle.tcl_values.specs.declared.element.Pairs.{Pairs}
use Rattle.tcl_values.proofs.Depths.{depth_read, depth_set-bound}
use Rattle.tcl_values.proofs.PairKept.{same_kept}
use Rattle.tcl_values.proofs.Replaced.{same_texts, same_shown}

still_lower : (o : Option (Rc Pairs Global)) (d e : ℕ) → d ≤ e → IfSome o (λ p. p.value.depth ≤ d) → IfSome o (λ p. p.value.depth ≤ e)
still_lower None d e l h = tt
still_lower (Some p) d e l h = omega (arith, l, h)

-- the element that stands at a place, however it was found there
at_place : (ks : List Kept) (i : ℕ) (x b : Kept) → x ≡ get_or ks i x → slice_get ks i ≡ Some b → x ≡ b
at_place ks i x b is before = is ∙ get_or_from_slice_get ks i b x before

pub item_read : (own new : Items) (i : ℕ) (k x b : Kept) → AreKept own → x ≡ get_or (elements own) i x → slice_get (elements own) i ≡ Some b → elements new ≡ slice_set (elements own) i k
    → x.depth ≡ 0 → k.text ≡ x.text → k.depth ≡ 1 → new.depth ≡ max own.depth 2 → new.text ≡ own.text → new.pairs ≡ own.pairs → (items_text new ≡ items_text own) × AreKept new
item_read own new i k x b kept is before set none same one depth text pairs =
    let there : x ≡ b = at_place (elements own) i x b is before in
    let texts_same : texts (elements new) ≡ texts (elements own) = ap texts set ∙ same_texts (elements own) i k b before (same ∙ ap (λ (q : Kept). q.text) there) in
    let text_same : items_text new ≡ items_text own = ap (λ t. shown (shared_text t) (elements new)) text ∙ same_shown (shared_text own.text) (elements new) (elements own) texts_same in (
      text_same,
      record {
        limit = omega (arith, depth, kept.limit);
        exact = omega (arith, depth, kept.exact, ap depth_over set, depth_read (elements own) i k b before (sym (ap (λ (q : Kept). q.depth) there) ∙ none) one);
        reading = ap elements_of text_same ∙ kept.reading ∙ ap Ok (sym texts_same);
        beside = subst (λ o. IfSome o (λ p. ArePairsRead p.value (items_text new))) (sym pairs) (subst (λ t. IfSome own.pairs (λ p. ArePairsRead p.value t)) (sym text_same) kept.beside);
        lower = subst (λ o. IfSome o (λ p. p.value.depth ≤ new.depth)) (sym pairs) (still_lower own.pairs own.depth new.depth (omega (arith, depth)) kept.lower);
      },
    )

pub value_read : (own new : Pairs) (i : ℕ) (k x b : Kept) → ArePaired own → x ≡ get_or own.values.items i x → slice_get own.values.items i ≡ Some b → new.values.items ≡ slice_set own.values.items i k
    → k.text ≡ x.text → k.depth ≡ 1 → new.depth ≡ max own.depth 2 → new.text ≡ own.text → new.keys.keys ≡ own.keys.keys → (pairs_text new ≡ pairs_text own) × ArePaired new
value_read own new i k x b kept is before set same one depth text keys =
    same_kept own new kept (omega (arith, depth, kept.limit)) (omega (arith, depth, kept.deeper, ap depth_over set, one, depth_set-bound own.values.items i k)) keys
    (ap texts set ∙ same_texts own.values.items i k b before (same ∙ ap (λ (q : Kept). q.text) (at_place own.values.items i x b is before))) text
