-- A list one of whose elements is replaced.
use Rattle.std.proofs.Common.{◌≡◌, ℕ, ◌<◌, ◌≤◌, List, length, Option, None, Some, option_map, Ok, sym, ap, ◌∙◌, slice_get, slice_set, nat_lt, take, drop, zero, suc, [], ◌∷◌, refl, get_or, ◌+◌, ◌++◌}
use Rattle.std.specs.Prelude.{if◌then◌else◌}
use Rattle.std.proofs.lemmas.Bool.{cond-true, cond-false, lt-ltb, le-ltb}
use Rattle.std.proofs.lemmas.List.{map-set, length-map, take-map, drop-map, map-append}
use Rattle.std.proofs.lemmas.Option.{slice_get-map, slice_get_past, get_or_from_slice_get}
use Rattle.tcl_chars.specs.Reading.{◌>>=◌}
use Rattle.tcl_list.specs.Elements.{elements_of}
use Rattle.tcl_list.specs.Written.{written}
use Rattle.tcl_values.specs.Kept.{Kept, texts}
use Rattle.tcl_values.specs.Lists.{item_of, part_of, spliced, with_item}
use Rattle.tcl_values.specs.Shape.{shown}

abbrev text_in : Option Kept → List ℕ
text_in None = []
text_in (Some k) = k.text

pub item_before : (t : List ℕ) (ks : List Kept) (i : ℕ) (k : Kept) (x : List ℕ) → elements_of t ≡ Ok (texts ks) → slice_get ks i ≡ Some k → x ≡ k.text → item_of t i ≡ Ok (Some x)
item_before t ks i k x e g same =
    ap (λ r. r >>= λ es. Ok (slice_get es i)) e
    ∙ ap Ok (slice_get-map (λ (q : Kept). q.text) ks i ∙ ap (option_map (λ (q : Kept). q.text)) g ∙ ap Some (sym same))

pub item_replaced : (t : List ℕ) (ks more : List Kept) (i : ℕ) (k : Kept) (x new : List ℕ) → elements_of t ≡ Ok (texts ks) → i < length ks → more ≡ slice_set ks i k → k.text ≡ x → new ≡ written (texts more) → with_item t i x ≡ Ok new
item_replaced t ks more i k x new e l m same is =
    let size : length (texts ks) ≡ length ks = length-map ks (λ (q : Kept). q.text) in
    let inside : i < length (texts ks) = rw size l in
    let set : texts more ≡ slice_set (texts ks) i x = ap texts m ∙ map-set (λ (q : Kept). q.text) ks i k ∙ ap (slice_set (texts ks) i) same in
    ap (λ r. r >>= λ es. Ok (if nat_lt i (length es) then written (slice_set es i x) else t)) e
    ∙ ap Ok (cond-true _ _ _ (lt-ltb i (length (texts ks)) inside) ∙ ap written (sym set) ∙ sym is)

pub nothing_replaced : (t : List ℕ) (ks : List Kept) (i : ℕ) (x : List ℕ) → elements_of t ≡ Ok (texts ks) → length ks ≤ i → with_item t i x ≡ Ok t
nothing_replaced t ks i x e past =
    let size : length (texts ks) ≡ length ks = length-map ks (λ (q : Kept). q.text) in
    let outside : length (texts ks) ≤ i = rw size past in
    ap (λ r. r >>= λ es. Ok (if nat_lt i (length es) then written (slice_set es i x) else t)) e
    ∙ ap Ok (cond-false _ _ _ (le-ltb i (length (texts ks)) outside))

pub nothing_before : (t : List ℕ) (ks : List Kept) (i : ℕ) → elements_of t ≡ Ok (texts ks) → length ks ≤ i → item_of t i ≡ Ok None
nothing_before t ks i e past =
    ap (λ r. r >>= λ es. Ok (slice_get es i)) e ∙ ap Ok (slice_get-map (λ (q : Kept). q.text) ks i ∙ ap (option_map (λ (q : Kept). q.text)) (slice_get_past ks i past))

pub part_taken : (t : List ℕ) (ks more : List Kept) (i n : ℕ) (new : List ℕ) → elements_of t ≡ Ok (texts ks) → more ≡ take n (drop i ks) → new ≡ written (texts more) → part_of t i n ≡ Ok new
part_taken t ks more i n new e part is =
    let some : texts more ≡ take n (drop i (texts ks)) = ap texts part ∙ sym (ap (take n) (drop-map (λ (q : Kept). q.text) i ks) ∙ take-map (λ (q : Kept). q.text) n (drop i ks)) in
    ap (λ r. r >>= λ es. Ok (written (take n (drop i es)))) e ∙ ap Ok (ap written (sym some) ∙ sym is)

pub same_texts : (ks : List Kept) (i : ℕ) (k b : Kept) → slice_get ks i ≡ Some b → k.text ≡ b.text → texts (slice_set ks i k) ≡ texts ks
same_texts [] i k b g e = refl
same_texts (x ∷ ks) zero k b g e =
    let same : x.text ≡ b.text = ap text_in g in
    ap (λ t. t ∷ texts ks) (e ∙ sym same)
same_texts (x ∷ ks) (suc i) k b g e = ap (λ ts. x.text ∷ ts) (same_texts ks i k b g e)

-- an element that is replaced by one of the same text, which was read from it
pub plain_texts : (ks now : List Kept) (i : ℕ) (k b x : Kept) → slice_get ks i ≡ Some b → now ≡ slice_set ks i k → x ≡ get_or ks i x → k.text ≡ x.text → texts now ≡ texts ks
plain_texts ks now i k b x g set is e =
    let same : x.text ≡ b.text = ap (λ (q : Kept). q.text) (is ∙ get_or_from_slice_get ks i b x g) in
    ap texts set ∙ same_texts ks i k b g (e ∙ same)

pub same_shown : (t : Option (List ℕ)) (ks ls : List Kept) → texts ks ≡ texts ls → shown t ks ≡ shown t ls
same_shown None ks ls e = ap written e
same_shown (Some t) ks ls e = refl

pub list_spliced : (t : List ℕ) (ks ls now : List Kept) (i n : ℕ) (xs : List (List ℕ)) (new : List ℕ) → elements_of t ≡ Ok (texts ks) → now ≡ take i ks ++ ls ++ drop (i + n) ks → texts ls ≡ xs → new ≡ written (texts now) → spliced t i n xs ≡ Ok new
list_spliced t ks ls now i n xs new e done same is =
    let f = λ (q : Kept). q.text in
    let parts : texts now ≡ take i (texts ks) ++ xs ++ drop (i + n) (texts ks) =
    ap texts done ∙ map-append f (take i ks ++ ls) (drop (i + n) ks)
    ∙ (λ k. (map-append f (take i ks) ls ∙ (λ j. (sym (take-map f i ks)) j ++ same j)) k ++ (sym (drop-map f (i + n) ks)) k) in
    ap (λ r. r >>= λ es. Ok (written (take i es ++ xs ++ drop (i + n) es))) e ∙ ap Ok (ap written (sym parts) ∙ sym is)
