-- Pairs written one behind another.
use Rattle.std.proofs.Common.{◌≡◌, ℕ, zero, suc, ◌+◌, ◌<◌, ◌==◌, Bool, false, List, [], ◌∷◌, ◌++◌, length, take, get_or, sym, ap, ◌∙◌, refl, arith}
use Rattle.std.proofs.lemmas.Bool.{ne_eqb}
use Rattle.std.proofs.lemmas.List.{map_push, take_more, length-take, length-map}
use Rattle.tcl_list.specs.Laws.{has_none}
use Rattle.tcl_list.specs.Written.{appended, written}
use Rattle.tcl_list.proofs.Joining.{appended_is_longer}
use Rattle.tcl_pages.specs.DictPages.{flat, dictionary}
use Rattle.tcl_pages.specs.Texts.{Text}
use Rattle.tcl_values.specs.Kept.{Kept, texts}
use Rattle.tcl_values.specs.Paired.{zipped}

flat_push : (ks vs : List Text) (k v : Text) → length ks ≡ length vs → flat (zipped (ks ++ k ∷ []) (vs ++ v ∷ [])) ≡ (flat (zipped ks vs) ++ k ∷ []) ++ v ∷ []
flat_push [] [] k v e = refl
flat_push [] (w ∷ vs) k v e = absurd (omega (arith, e))
flat_push (j ∷ ks) [] k v e = absurd (omega (arith, e))
flat_push (j ∷ ks) (w ∷ vs) k v e = ap (λ ts. j ∷ w ∷ ts) (flat_push ks vs k v (omega (arith, e)))

one_at_least : (es : List Text) (e : Text) → has_none (es ++ e ∷ []) ≡ false
one_at_least [] e = refl
one_at_least (x ∷ es) e = refl

written_two : (es : List Text) (k v : Text) → written ((es ++ k ∷ []) ++ v ∷ []) ≡ (written es ++ appended (has_none es) k) ++ appended false v
written_two es k v =
    sym (ap (λ t. t ++ appended false v) (appended_is_longer es k) ∙ ap (λ b. written (es ++ k ∷ []) ++ appended b v) (sym (one_at_least es k)) ∙ appended_is_longer (es ++ k ∷ []) v)

none_before : (js : List Text) (vs : List Kept) (i : ℕ) → i < length js → length js ≡ length vs → has_none (flat (zipped (take i js) (texts (take i vs)))) ≡ (i == 0)
none_before js vs zero l e = refl
none_before [] vs (suc i) l e = absurd (omega arith)
none_before (j ∷ js) [] (suc i) l e = absurd (omega (arith, e))
none_before (j ∷ js) (v ∷ vs) (suc i) l e = sym (ne_eqb (suc i) 0 (λ z. omega arith))

-- the first i pairs in turn, and one pair more
pub flat_pair : (js : List Text) (vs : List Kept) (i : ℕ) (j : Text) (v : Kept) (old mid new : List Text) → i < length js → length js ≡ length vs → j ≡ get_or js i j → v ≡ get_or vs i v
    → old ≡ flat (zipped (take i js) (texts (take i vs))) → mid ≡ old ++ j ∷ [] → new ≡ mid ++ v.text ∷ []
    → new ≡ flat (zipped (take (i + 1) js) (texts (take (i + 1) vs)))
flat_pair js vs i j v old mid new l e is_key is_value so_far key value =
    let lv : i < length vs = omega (arith, l, e) in
    let keys : take (i + 1) js ≡ take i js ++ j ∷ [] = take_more js i j l ∙ ap (λ x. take i js ++ x ∷ []) (sym is_key) in
    let values : texts (take (i + 1) vs) ≡ texts (take i vs) ++ v.text ∷ [] = ap texts (take_more vs i v lv ∙ ap (λ x. take i vs ++ x ∷ []) (sym is_value)) ∙ map_push (λ (q : Kept). q.text) (take i vs) v in
    let even : length (take i js) ≡ length (texts (take i vs)) =
    omega (arith, length-map (take i vs) (λ (q : Kept). q.text), length-take i js, length-take i vs, l, lv) in
    value ∙ ap (λ ts. ts ++ v.text ∷ []) (key ∙ ap (λ ts. ts ++ j ∷ []) so_far)
    ∙ sym ((λ n. flat (zipped (keys n) (values n))) ∙ flat_push (take i js) (texts (take i vs)) j v.text even)

-- the text of the first i pairs, and one pair more
pub written_pair : (js : List Text) (vs : List Kept) (i : ℕ) (j : Text) (v : Kept) (old mid new : Text) → i < length js → length js ≡ length vs → j ≡ get_or js i j → v ≡ get_or vs i v
    → old ≡ dictionary (zipped (take i js) (texts (take i vs))) → mid ≡ old ++ appended (i == 0) j → new ≡ mid ++ appended false v.text
    → new ≡ dictionary (zipped (take (i + 1) js) (texts (take (i + 1) vs)))
written_pair js vs i j v old mid new l e is_key is_value so_far key value =
    let es : List Text = flat (zipped (take i js) (texts (take i vs))) in
    value ∙ ap (λ t. t ++ appended false v.text) (key ∙ ap (λ t. t ++ appended (i == 0) j) so_far ∙ ap (λ (b : Bool). written es ++ appended b j) (sym (none_before js vs i l e)))
    ∙ sym (ap written (sym (flat_pair js vs i j v es (es ++ j ∷ []) _ l e is_key is_value refl refl refl)) ∙ written_two es j v.text)
