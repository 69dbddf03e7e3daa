-- Pairs that are kept stand for their text, also where one is put or taken out.
use Rattle.std.proofs.Common.{◌≡◌, ℕ, zero, suc, ◌+◌, ◌<◌, ◌≤◌, List, [], ◌∷◌, ◌++◌, length, max, None, Some, Ok, sym, ap, ◌∙◌, arith, slice_set, remove, length-append}
use Rattle.std.proofs.lemmas.List.{length-set}
use Rattle.std.specs.declared.rc.RcStr.{RcStr}
use Rattle.std.specs.declared.alloc.Global.{Global}
use Rattle.std.proofs.lemmas.List.Edits.{length-remove}
use Rattle.tcl_chars.specs.Texts.{text_of}
use Rattle.tcl_list.specs.Elements.{elements_of}
use Rattle.tcl_pages.specs.Answers.{◌>>=◌}
use Rattle.tcl_pages.specs.Dictionaries.{put_key, pairs_of}
use Rattle.tcl_pages.specs.DictPages.{dictionary, without_key}
use Rattle.tcl_pages.specs.Texts.{Text}
use Rattle.tcl_values.specs.Kept.{Kept, texts, depth_over}
use Rattle.tcl_values.specs.Paired.{read_pairs, zipped}
use Rattle.tcl_values.specs.Shape.{elements, items_text, shared_text, shown_pairs, pairs_in, pairs_text, AreKept, ArePaired}
use Rattle.tcl_values.specs.declared.element.Items.{Items}
use Rattle.tcl_values.specs.declared.element.Pairs.{Pairs}
use Rattle.tcl_values.proofs.ElementPlaces.{length_texts}
use Rattle.tcl_values.proofs.Depths.{depth_over-push, depth_set-bound}
use Rattle.tcl_values.proofs.PairTexts.{reads_none, reads_put, reads_without, reads_again}

pub bare_text : (p : Pairs) → p.text ≡ None → pairs_text p ≡ dictionary (pairs_in p)
bare_text p none = ap (λ t. shown_pairs (shared_text t) (pairs_in p)) none

pub bare_reads : (p : Pairs) → p.text ≡ None → pairs_of (dictionary (pairs_in p)) ≡ Ok (pairs_in p) → pairs_of (pairs_text p) ≡ Ok (pairs_in p)
bare_reads p none e = ap pairs_of (bare_text p none) ∙ e

pub put_kept : (own new : Pairs) (k v : Text) → ArePaired own → new.depth ≤ 64 → depth_over new.values.items ≤ new.depth → length new.keys.keys ≡ length new.values.items → new.text ≡ None
    → pairs_in new ≡ put_key (pairs_in own) k v → ArePaired new
put_kept own new k v kept limit deeper even none put = record {
  limit = limit;
  deeper = deeper;
  even = even;
  reading = bare_reads new none (reads_put (pairs_text own) (pairs_in own) (pairs_in new) k v kept.reading put);
}

pub less_kept : (own new : Pairs) (k : Text) → ArePaired own → new.depth ≤ 64 → depth_over new.values.items ≤ new.depth → length new.keys.keys ≡ length new.values.items → new.text ≡ None
    → pairs_in new ≡ without_key k (pairs_in own) → ArePaired new
less_kept own new k kept limit deeper even none less = record {
  limit = limit;
  deeper = deeper;
  even = even;
  reading = bare_reads new none (reads_without (pairs_text own) (pairs_in own) (pairs_in new) k kept.reading less);
}

pub same_pairs : (own new : Pairs) → new.keys.keys ≡ own.keys.keys → texts new.values.items ≡ texts own.values.items → pairs_in new ≡ pairs_in own
same_pairs own new keys values = λ n. zipped (keys n) (values n)

pub same_kept : (own new : Pairs) → ArePaired own → new.depth ≤ 64 → depth_over new.values.items ≤ new.depth → new.keys.keys ≡ own.keys.keys → texts new.values.items ≡ texts own.values.items → new.text ≡ own.text
    → (pairs_text new ≡ pairs_text own) × ArePaired new
same_kept own new kept limit deeper keys values text =
    let text_same : pairs_text new ≡ pairs_text own = λ n. shown_pairs (shared_text (text n)) (same_pairs own new keys values n) in (
      text_same,
      record {
        limit = limit;
        deeper = deeper;
        even = ap length keys ∙ kept.even ∙ sym (length_texts own.values.items) ∙ sym (ap length values) ∙ length_texts new.values.items;
        reading = ap pairs_of text_same ∙ kept.reading ∙ ap Ok (sym (same_pairs own new keys values));
      },
    )

pub even_set : (js ks : List Text) (vs ws : List Kept) (i : ℕ) (v : Kept) → length js ≡ length vs → ks ≡ js → ws ≡ slice_set vs i v → length ks ≡ length ws
even_set js ks vs ws i v e keys values = ap length keys ∙ e ∙ sym (ap length values ∙ length-set vs i v)

pub even_more : (js ks : List Text) (vs ws : List Kept) (key : Text) (v : Kept) → length js ≡ length vs → ks ≡ js ++ key ∷ [] → ws ≡ vs ++ v ∷ [] → length ks ≡ length ws
even_more js ks vs ws key v e keys values = omega (arith, ap length keys, ap length values, length-append js (key ∷ []), length-append vs (v ∷ []), e)

pub deeper_set : (vs ws : List Kept) (i : ℕ) (v : Kept) (d e n : ℕ) → depth_over vs ≤ d → ws ≡ slice_set vs i v → e ≡ v.depth → n ≡ max d (e + 1) → depth_over ws ≤ n
deeper_set vs ws i v d e n below values same new = omega (arith, below, ap depth_over values, depth_set-bound vs i v, same, new)

pub deeper_more : (vs ws : List Kept) (v : Kept) (d e n : ℕ) → depth_over vs ≤ d → ws ≡ vs ++ v ∷ [] → e ≡ v.depth → n ≡ max d (e + 1) → depth_over ws ≤ n
deeper_more vs ws v d e n below values same new = omega (arith, below, ap depth_over values, depth_over-push vs v, same, new)

pub none_kept : (p : Pairs) → p.depth ≡ 1 → p.text ≡ None → p.keys.keys ≡ [] → p.values.items ≡ [] → ArePaired p
none_kept p one none keys values =
    let nothing : pairs_in p ≡ [] = λ n. zipped (keys n) (texts (values n)) in
    record {
      limit = omega (arith, one);
      deeper = omega (arith, one, ap depth_over values);
      even = ap length keys ∙ sym (ap length values);
      reading = bare_reads p none (reads_nothing (pairs_in p) nothing);
    }
  where
    reads_nothing : (ps : List (Text × Text)) → ps ≡ [] → pairs_of (dictionary ps) ≡ Ok ps
    reads_nothing ps e = ap (λ qs. pairs_of (dictionary qs)) e ∙ reads_none ∙ ap Ok (sym e)

-- the pairs alone
pub bare_kept : (own new : Pairs) → ArePaired own → new.text ≡ None → new.depth ≡ own.depth → new.keys.keys ≡ own.keys.keys → new.values.items ≡ own.values.items → ArePaired new
bare_kept own new kept none depth keys values =
    let same : pairs_in new ≡ pairs_in own = same_pairs own new keys (ap texts values) in
    record {
      limit = omega (arith, depth, kept.limit);
      deeper = omega (arith, depth, ap depth_over values, kept.deeper);
      even = ap length keys ∙ kept.even ∙ sym (ap length values);
      reading = bare_reads new none (ap (λ ps. pairs_of (dictionary ps)) same ∙ reads_again (pairs_text own) (pairs_in own) kept.reading ∙ ap Ok (sym same));
    }

depth_less : (vs : List Kept) (i : ℕ) → depth_over (remove vs i) ≤ depth_over vs
depth_less [] zero = omega arith
depth_less [] (suc i) = omega arith
depth_less (v ∷ vs) zero = omega arith
depth_less (v ∷ vs) (suc i) = omega (arith, depth_less vs i)

pub deeper_less : (vs ws : List Kept) (i d : ℕ) → depth_over vs ≤ d → ws ≡ remove vs i → depth_over ws ≤ d
deeper_less vs ws i d below values = omega (arith, below, ap depth_over values, depth_less vs i)

pub even_less : (js ks : List Text) (vs ws : List Kept) (i : ℕ) → length js ≡ length vs → i < length js → ks ≡ remove js i → ws ≡ remove vs i → length ks ≡ length ws
even_less js ks vs ws i e l keys values =
    let lv : i < length vs = omega (arith, l, e) in
    omega (arith, ap length keys, ap length values, length-remove js i l, length-remove vs i lv, e)

-- a list that is read as pairs, with its text
pub read_kept : (p : Pairs) (r : Items) (t : RcStr Global) → AreKept r → text_of t ≡ items_text r → ArePaired p → read_pairs [] (texts (elements r)) ≡ Ok (pairs_in p)
    → ArePaired (record p { text = Some t })
unfolding pairs_of
read_kept p r t row text kept read = record {
  limit = kept.limit;
  deeper = kept.deeper;
  even = kept.even;
  reading = ap (λ s. elements_of s >>= read_pairs []) text ∙ ap (λ es. es >>= read_pairs []) row.reading ∙ read;
}
