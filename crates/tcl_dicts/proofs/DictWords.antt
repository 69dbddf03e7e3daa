-- Words by their places, as keys and values.
use Rattle.std.proofs.Common.{◌≡◌, ℕ, zero, suc, ◌+◌, ◌<◌, ◌≤◌, List, [], ◌∷◌, ◌++◌, length, drop, get_or, Ok, Err, refl, sym, ap, ◌∙◌, append_assoc, add-one, arith}
use Rattle.std.proofs.Math.Seq.{drop-cons}
use Rattle.std.proofs.lemmas.List.{append-nil, drop_more}
use Rattle.tcl_arguments.specs.WordAt.{word}
use Rattle.tcl_pages.specs.Answers.{Answer, ◌>>=◌}
use Rattle.tcl_pages.specs.Dictionaries.{Pairs, put_key, put_keys, in_pairs, pairs_of, keys_of, values_of}
use Rattle.tcl_pages.specs.DictPages.{inner_of, value_under, merged, without_key, without_keys}
use Rattle.tcl_pages.specs.Texts.{Text}
use Rattle.tcl_pages.proofs.InPairs.{with_pair, pair_ahead}
use Rattle.tcl_chars.specs.Texts.{literal}

-- these pairs before what is read
abbrev pub with_front : Pairs → Answer Pairs → Answer Pairs
with_front front (Ok ps) = Ok (front ++ ps)
with_front front (Err message) = Err message

pub drop_end : (ws : List Text) (i : ℕ) → length ws ≤ i → drop i ws ≡ []
drop_end [] zero l = refl
drop_end [] (suc i) l = refl
drop_end (w ∷ ws) zero l = absurd (omega (arith, l))
drop_end (w ∷ ws) (suc i) l = drop_end ws i (omega (arith, l))

-- words that were copied, before those that are left
pub words_more : (cs more ws full : List Text) (i : ℕ) (x : Text) → i < length ws → x ≡ word ws i → more ≡ cs ++ x ∷ [] → cs ++ drop i ws ≡ full → more ++ drop (i + 1) ws ≡ full
words_more cs more ws full i x l e m so_far =
    ap (λ us. us ++ drop (i + 1) ws) m ∙ append_assoc cs (x ∷ []) (drop (i + 1) ws) ∙ ap (λ us. cs ++ us) (ap (λ u. u ∷ drop (i + 1) ws) e ∙ sym (drop_more ws i [] l)) ∙ so_far

-- ---- keys, each in the dictionary under the one before

pub value_more : (t : Text) (ws : List Text) (i : ℕ) (k inner : Text) → i < length ws → k ≡ word ws i → inner_of t k ≡ Ok inner → value_under inner (drop (i + 1) ws) ≡ value_under t (drop i ws)
value_more t ws i k inner l e is = sym (ap (value_under t) (drop_more ws i [] l) ∙ ap (λ r. r >>= λ x. value_under x (drop (i + 1) ws)) (ap (inner_of t) (sym e) ∙ is))

pub value_stops : (t : Text) (ws : List Text) (i : ℕ) (k m : Text) → i < length ws → k ≡ word ws i → inner_of t k ≡ Err m → value_under t (drop i ws) ≡ Err m
value_stops t ws i k m l e is = ap (value_under t) (drop_more ws i [] l) ∙ ap (λ r. r >>= λ x. value_under x (drop (i + 1) ws)) (ap (inner_of t) (sym e) ∙ is)

pub value_end : (t : Text) (ws : List Text) (i : ℕ) → length ws ≤ i → value_under t (drop i ws) ≡ Ok t
value_end t ws i l = ap (value_under t) (drop_end ws i l)

-- ---- dictionaries that are merged

pub merge_more : (found next ps : Pairs) (ws : List Text) (i : ℕ) → i < length ws → pairs_of (word ws i) ≡ Ok ps → next ≡ put_keys found ps → merged next (drop (i + 1) ws) ≡ merged found (drop i ws)
merge_more found next ps ws i l e n =
    ap (λ qs. merged qs (drop (i + 1) ws)) n ∙ sym (ap (merged found) (drop_more ws i [] l) ∙ ap (λ r. r >>= λ qs. merged (put_keys found qs) (drop (i + 1) ws)) e)

pub merge_stops : (found : Pairs) (ws : List Text) (i : ℕ) (m : Text) → i < length ws → pairs_of (word ws i) ≡ Err m → merged found (drop i ws) ≡ Err m
merge_stops found ws i m l e = ap (merged found) (drop_more ws i [] l) ∙ ap (λ r. r >>= λ qs. merged (put_keys found qs) (drop (i + 1) ws)) e

-- ---- keys that are taken out

pub without_more : (found less : Pairs) (ws : List Text) (i : ℕ) (k : Text) → i < length ws → k ≡ word ws i → less ≡ without_key k found → without_keys (drop (i + 1) ws) less ≡ without_keys (drop i ws) found
without_more found less ws i k l e is =
    ap (without_keys (drop (i + 1) ws)) (is ∙ ap (λ t. without_key t found) e) ∙ sym (ap (λ ks. without_keys ks found) (drop_more ws i [] l))

-- ---- pairs by their places

pair_at : (ps : Pairs) (i : ℕ) (k v : Text) → i < length ps → k ≡ get_or (keys_of ps) i k → v ≡ get_or (values_of ps) i v → get_or ps i (k, v) ≡ (k, v)
pair_at [] i k v l ke ve = absurd (omega arith)
pair_at (p ∷ ps) zero k v l ke ve = λ n. (sym ke n, sym ve n)
pair_at (p ∷ ps) (suc i) k v l ke ve = pair_at ps i k v (omega (arith, l)) ke ve

drop_pair : (ps : Pairs) (i : ℕ) (k v : Text) → i < length ps → k ≡ get_or (keys_of ps) i k → v ≡ get_or (values_of ps) i v → drop i ps ≡ (k, v) ∷ drop (i + 1) ps
drop_pair ps i k v l ke ve =
    drop-cons ps i (k, v) l ∙ (λ n. pair_at ps i k v l ke ve n ∷ drop (suc i) ps) ∙ ap (λ n. (k, v) ∷ drop n ps) (sym (add-one i))

pub put_more : (found next ps : Pairs) (i : ℕ) (k v : Text) → i < length ps → k ≡ get_or (keys_of ps) i k → v ≡ get_or (values_of ps) i v → next ≡ put_key found k v → put_keys next (drop (i + 1) ps) ≡ put_keys found (drop i ps)
put_more found next ps i k v l ke ve is = ap (λ qs. put_keys qs (drop (i + 1) ps)) is ∙ sym (ap (put_keys found) (drop_pair ps i k v l ke ve))

-- ---- words as keys and values

two_front : (front : Pairs) (p : Text × Text) (r : Answer Pairs) → with_front (front ++ p ∷ []) r ≡ with_front front (with_pair p.0 p.1 r)
two_front front p (Ok ps) = ap Ok (append_assoc front (p ∷ []) ps)
two_front front p (Err m) = refl

pub pair_more : (front next : Pairs) (p : Text × Text) (ws : List Text) (i : ℕ) → i + 1 < length ws → p ≡ (word ws i, word ws (i + 1)) → next ≡ front ++ p ∷ [] → with_front next (in_pairs (drop (i + 2) ws)) ≡ with_front front (in_pairs (drop i ws))
pair_more front next p ws i l e is =
    let two : drop i ws ≡ word ws i ∷ word ws (i + 1) ∷ drop (i + 2) ws = drop_more ws i [] (omega (arith, l)) ∙ ap (λ ts. word ws i ∷ ts) (drop_more ws (i + 1) [] l ∙ ap (λ n. word ws (i + 1) ∷ drop n ws) (omega arith)) in
    ap (λ ps. with_front ps (in_pairs (drop (i + 2) ws))) is ∙ two_front front p (in_pairs (drop (i + 2) ws))
    ∙ ap (λ q. with_front front (with_pair q.0 q.1 (in_pairs (drop (i + 2) ws)))) e
    ∙ ap (with_front front) (sym (pair_ahead _ (word ws i) (word ws (i + 1)) (drop (i + 2) ws))) ∙ sym (ap (λ ts. with_front front (in_pairs ts)) two)

pub pairs_end : (front : Pairs) (ws : List Text) (i : ℕ) → length ws ≤ i → with_front front (in_pairs (drop i ws)) ≡ Ok front
pairs_end front ws i l = ap (λ ts. with_front front (in_pairs ts)) (drop_end ws i l) ∙ ap Ok (append-nil front)

pub pairs_odd : (front : Pairs) (ws : List Text) (i : ℕ) → i < length ws → length ws ≤ i + 1 → with_front front (in_pairs (drop i ws)) ≡ Err (literal "missing value to go with key")
pairs_odd front ws i l m = ap (λ ts. with_front front (in_pairs ts)) (drop_more ws i [] l ∙ ap (λ ts. word ws i ∷ ts) (drop_end ws (i + 1) m))
