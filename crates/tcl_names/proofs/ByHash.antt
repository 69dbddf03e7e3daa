-- What a change of a `HashMap` with `RcStr` keys is to the finite map from texts, and what sorting its entries gives.
use Rattle.std.proofs.Common.{ℕ, zero, suc, ◌+◌, ◌<◌, List, [], ◌∷◌, ◌≡◌, Bool, false, cond, Ordering, refl, sym, ap, subst, ◌∙◌, Option, None, Some, length, get_or, arith}
use Rattle.std.specs.FinMap as map
use Rattle.std.specs.FinMap.{find, same_map, get-from_entries, len-empty, len-insert}
use Rattle.std.specs.List.{AllByRecursion, IsDistinct}
use Rattle.std.specs.List.Sorted.{IsStrictlySortedBy, IsSorted, IsSortedBy, IsPermutation}
use Rattle.std.specs.declared.cmp.Ordering.TheVariants.{Less, Equal, Greater}
use Rattle.std.specs.HashMap.{HashMap, UpdatesBy, WritesThrough, get_by, IsUnique, hash_map_len}
use Rattle.std.specs.Map.{keys_of, lookup}
use Rattle.std.specs.Cmp.{IsEquivalence, eq_by_cmp_equiv}
use Rattle.std.specs.Ordering.{is_eq, is_lt, nat_cmp, ordering_reverse}
use Rattle.std.specs.Option.{option_map, IsSome, is_some}
use Rattle.std.specs.Cmp.Lexicographic.{slice_cmp, nat_list_cmp_total}
use Rattle.std.specs.Str.{chars, IsUtf8, bytes_eq}
use Rattle.std.specs.Rc.{rc_str_bytes}
use Rattle.std.specs.declared.rc.RcStr.{RcStr}
use Rattle.std.specs.declared.alloc.Global.{Global}
use Rattle.std.proofs.lemmas.List.{length-map}
use Rattle.std.proofs.lemmas.List.Sorted.{IsPermutation-map, IsPermutation-sym, Contains-permutation}
use Rattle.std.proofs.lemmas.Map.Keys.{IsDistinct-IsPermutation, apart_from_distinct, sorted_from_all_adjacent}
use Rattle.std.proofs.lemmas.Map.Views.{Contains-from_lookup, lookup-from_Contains}
use Rattle.std.proofs.lemmas.Map.Text.{is_eq-slice_cmp}
use Rattle.tcl_names.specs.Named.{text_of, by_text, hashed}
use Rattle.tcl_chars.specs.Texts.{by_code_point}
use Rattle.tcl_names.proofs.Entries.{exact, at_key, text_order, same, same_text, get-where, insert-where, remove-where, entries_in_order}

-- the equality of `RcStr`s
abbrev pub rc_eq : RcStr Global → RcStr Global → Bool
rc_eq x y = bytes_eq (rc_str_bytes x) (rc_str_bytes y)

-- whether a key is the text with the bytes bs
abbrev pub is_text : List ℕ → RcStr Global → Bool
is_text bs k = bytes_eq bs (rc_str_bytes k)

at_text : (bs : List ℕ) → IsUtf8 bs → (k : RcStr Global) → same (chars bs) (text_of k) ≡ is_text bs k
at_text bs u k = at_key bs u k ∙ is_eq-slice_cmp bs (rc_str_bytes k)

alike : (x y : RcStr Global) → same (text_of x) (text_of y) ≡ rc_eq x y
alike x y = ap is_eq (text_order x y) ∙ is_eq-slice_cmp (rc_str_bytes x) (rc_str_bytes y)

module _ {X H S : Type 0} (f : X → H) where
  -- a look-up
  pub get-hashed : (m : HashMap (RcStr Global) X S) (bs : List ℕ) → IsUtf8 bs → map.get (hashed f m) (chars bs) ≡ option_map f (get_by (is_text bs) m)
  get-hashed m bs u = get-where f bs (is_text bs) (at_text bs u) m.entries

  -- to put a value into the map is to put it into the finite map
  pub insert_hashed : (bs : List ℕ) → IsUtf8 bs → (m n : HashMap (RcStr Global) X S) (v : X) → UpdatesBy rc_eq (is_text bs) m n (Some v) → hashed f n ≡ map.insert (hashed f m) (chars bs) (f v)
  insert_hashed bs u m n v h = insert-where f bs (is_text bs) (at_text bs u) rc_eq alike m.entries n.entries v h.1 h.3

  -- and so is to take one out
  pub remove_hashed : (bs : List ℕ) → IsUtf8 bs → (m n : HashMap (RcStr Global) X S) → UpdatesBy rc_eq (is_text bs) m n None → hashed f n ≡ map.remove (hashed f m) (chars bs)
  remove_hashed bs u m n h = remove-where f bs (is_text bs) (at_text bs u) rc_eq alike m.entries n.entries h.1 h.3

  -- what a map ends as, once w is left behind what `get_mut` lent
  pub lent_hashed : (bs : List ℕ) → IsUtf8 bs → (m n : HashMap (RcStr Global) X S) (w : X) → IsSome (get_by (is_text bs) m) → WritesThrough rc_eq (is_text bs) m w n → hashed f n ≡ map.insert (hashed f m) (chars bs) (f w)
  lent_hashed bs u m n w some h = insert_hashed bs u m n w (h.3 some)

-- ---- entries that are sorted

module _ {H : Type 0} where
  find_looks : (q : List ℕ) (es : List (List ℕ × H)) → find by_code_point q es ≡ lookup (same q) es
  find_looks q [] = refl
  find_looks q (e ∷ es) = ap (cond (same q e.0) (Some e.1)) (find_looks q es)

  -- what is found stays where entries with keys that differ change their places
  lookup_moved : (es fs : List (List ℕ × H)) → IsPermutation es fs → IsDistinct same (keys_of es) → IsDistinct same (keys_of fs) → (q : List ℕ) → lookup (same q) fs ≡ lookup (same q) es
  lookup_moved es fs moves d e q = by (lookup (same q) es) (lookup (same q) fs) refl refl
    where
      laws : IsEquivalence same
      laws = eq_by_cmp_equiv nat_list_cmp_total

      by : (a b : Option H) → lookup (same q) es ≡ a → lookup (same q) fs ≡ b → b ≡ a
      by a (Some v) there here = sym (lookup-from_Contains laws q v es d (Contains-permutation fs es (q, v) (IsPermutation-sym es fs moves) (Contains-from_lookup same_text q v fs here))) ∙ there
      by (Some v) None there here = sym here ∙ lookup-from_Contains laws q v fs e (Contains-permutation es fs (q, v) moves (Contains-from_lookup same_text q v es there))
      by None None there here = refl

  none_alike : (q : List ℕ) (es : List (List ℕ × H)) → AllByRecursion (λ t. same q t ≡ false) (keys_of es) → find by_code_point q es ≡ None
  none_alike q [] h = refl
  none_alike q (e ∷ es) h = ap (λ b. cond b (Some e.1) (find by_code_point q es)) h.0 ∙ none_alike q es h.1

  -- keys that differ are counted one by one
  counted : (es : List (List ℕ × H)) → IsDistinct same (keys_of es) → map.len (map.from_entries {R = by_code_point} es) ≡ length es
  unfolding IsDistinct
  counted [] d = len-empty by_code_point H
  counted (e ∷ es) d =
      let m = map.from_entries {R = by_code_point} es in
      let more : length es + 1 ≡ suc (length es) = omega arith in
      len-insert nat_list_cmp_total m e.0 e.1 ∙ ap (λ o. cond (is_some o) (map.len m) (map.len m + 1)) (get-from_entries nat_list_cmp_total es e.0 ∙ none_alike e.0 es d.0) ∙ ap (λ n. n + 1) (counted es d.1) ∙ more

strictly : (o : Ordering) → is_lt o ≡ false → is_eq (ordering_reverse o) ≡ false → ordering_reverse o ≡ Less
strictly Less a b = absurd cc
strictly Equal a b = absurd cc
strictly Greater a b = refl

-- texts that don't fall and differ rise
rising : (ts : List (List ℕ)) → IsSorted by_code_point ts → IsDistinct same ts → IsStrictlySortedBy by_code_point ts
rising ts up d = sorted_from_all_adjacent nat_list_cmp_total ts [] (λ k l.
    let x = get_or ts k [] in
    let y = get_or ts (k + 1) [] in
    let turned = nat_list_cmp_total.antisymm x y in
    turned ∙ strictly (by_code_point y x) (up k [] (omega arith) l) (ap is_eq (sym turned) ∙ apart_from_distinct same ts k (k + 1) [] d (omega arith) l))

-- whether an entry comes before another by their names
abbrev pub before : {X : Type 0} → RcStr Global × X → RcStr Global × X → Bool
before x y = is_lt (slice_cmp nat_cmp (rc_str_bytes x.0) (rc_str_bytes y.0))

module _ {X H : Type 0} (f : X → H) where
  text_at_place : (es : List (RcStr Global × X)) (k : ℕ) (d : RcStr Global × X) (t : List ℕ) → k < length es → get_or (keys_of (by_text f es)) k t ≡ text_of (get_or es k d).0
  text_at_place [] k d t l = absurd (omega (arith, l))
  text_at_place (e ∷ es) zero d t l = refl
  text_at_place (e ∷ es) (suc k) d t l = text_at_place es k d t (omega (arith, l))

  as_many : (es : List (RcStr Global × X)) → length (keys_of (by_text f es)) ≡ length es
  as_many es = length-map (by_text f es) _ ∙ length-map es _

  texts_up : (es : List (RcStr Global × X)) → IsSortedBy before es → IsSorted by_code_point (keys_of (by_text f es))
  texts_up [] up = λ k d low l. absurd (omega (arith, l))
  texts_up (e ∷ es) up = λ k d low l.
      let within : k + 1 < length (e ∷ es) = subst (λ n. k + 1 < n) (as_many (e ∷ es)) l in
      (λ i. is_lt (by_code_point (text_at_place (e ∷ es) (k + 1) e d within i) (text_at_place (e ∷ es) k e d (omega (arith, within)) i)))
      ∙ ap is_lt (text_order (get_or (e ∷ es) (k + 1) e).0 (get_or (e ∷ es) k e).0) ∙ up k e low within

  texts_apart : (k : RcStr Global) (es : List (RcStr Global × X)) → AllByRecursion (λ y. rc_eq k y ≡ false) (keys_of es) → AllByRecursion (λ t. same (text_of k) t ≡ false) (keys_of (by_text f es))
  texts_apart k [] h = tt
  texts_apart k (e ∷ es) h = (alike k e.0 ∙ h.0, texts_apart k es h.1)

  texts_differ : (es : List (RcStr Global × X)) → IsDistinct rc_eq (keys_of es) → IsDistinct same (keys_of (by_text f es))
  unfolding IsDistinct
  texts_differ [] h = tt
  texts_differ (e ∷ es) h = (texts_apart e.0 es h.0, texts_differ es h.1)

-- how many names there are
pub len_hashed : {X H S : Type 0} (f : X → H) (m : HashMap (RcStr Global) X S) → IsUnique rc_eq m → hash_map_len m ≡ map.len (hashed f m)
len_hashed f m differ = sym (counted (by_text f m.entries) (texts_differ f m.entries differ) ∙ length-map m.entries _)

-- the entries of a map, shown as ps, are those of the finite map in their order once ps is sorted by name
pub entries_sorted : {X Y H : Type 0} (f : X → H) (g : Y → H) (es : List (RcStr Global × X)) (ps qs : List (RcStr Global × Y)) → IsDistinct rc_eq (keys_of es) → by_text g ps ≡ by_text f es → IsPermutation ps qs → IsSortedBy before qs
    → by_text g qs ≡ map.entries (map.from_entries {R = by_code_point} (by_text f es))
entries_sorted f g es ps qs differ shown moves up =
    let xs = by_text f es in
    let ys = by_text g qs in
    let moved : IsPermutation xs ys = subst (λ l. IsPermutation l ys) shown (IsPermutation-map _ ps qs moves) in
    let apart : IsDistinct same (keys_of xs) = texts_differ f es differ in
    let still : IsDistinct same (keys_of ys) = IsDistinct-IsPermutation same (eq_by_cmp_equiv nat_list_cmp_total).symm (keys_of xs) (keys_of ys) (IsPermutation-map (λ e. e.0) xs ys moved) apart in
    sym (entries_in_order ys (rising (keys_of ys) (texts_up g qs up) still))
    ∙ ap map.entries (same_map nat_list_cmp_total exact (map.from_entries ys) (map.from_entries xs)
    (λ q. get-from_entries nat_list_cmp_total ys q ∙ find_looks q ys ∙ lookup_moved xs ys moved apart still q ∙ sym (get-from_entries nat_list_cmp_total xs q ∙ find_looks q xs)))
