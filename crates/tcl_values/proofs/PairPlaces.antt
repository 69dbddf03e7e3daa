-- Keys and values that stand at the same places: a key that is looked for, put, taken out.
use Rattle.std.proofs.Common.{◌≡◌, ℕ, zero, suc, ◌+◌, ◌<◌, Bool, true, false, not, cond, List, [], ◌∷◌, ◌++◌, length, None, Some, refl, sym, ap, ◌∙◌, arith, slice_get, slice_set, position, inl, inr, get_or, remove}
use Rattle.std.specs.Cmp.Lexicographic.{nat_list_eq_equiv}
use Rattle.std.specs.List.{AllZip, list_any, position_or_len}
use Rattle.std.specs.Str.{bytes_eq}
use Rattle.std.proofs.lemmas.Bool.{cond-true, cond-false, or_parts, cases_lt, lt-ltb, le-ltb}
use Rattle.std.proofs.lemmas.List.{length-map, map-set, map-append}
use Rattle.tcl_chars.specs.Texts.{same_text}
use Rattle.tcl_pages.specs.Dictionaries.{Pairs, put_key, keys_of, values_of}
use Rattle.tcl_pages.specs.DictPages.{value_at, without_key}
use Rattle.tcl_pages.specs.Texts.{Text}
use Rattle.tcl_values.specs.Kept.{Kept, texts}
use Rattle.tcl_values.specs.Paired.{zipped}
use Rattle.tcl_chars.proofs.Same.{text_is}

-- (a key is compared as texts are, in the other order)
same_key : (k j : Text) → bytes_eq k j ≡ same_text j k
same_key k j = nat_list_eq_equiv.symm k j

-- keys that pass a test are those that have the text k
module _ (test : Text → Bool) (k : Text) (tells : (j : Text) → test j ≡ same_text j k) where
  at_first : (j : Text) (js : List Text) → test j ≡ true → position_or_len test (j ∷ js) ≡ 0
  at_first j js t = ap (λ b. cond (not b) (1 + position_or_len test js) 0) t

  later : (j : Text) (js : List Text) → test j ≡ false → position_or_len test (j ∷ js) ≡ suc (position_or_len test js)
  later j js t = let there : position_or_len test (j ∷ js) ≡ 1 + position_or_len test js = ap (λ b. cond (not b) (1 + position_or_len test js) 0) t in omega (arith, there)

  is_key : (j : Text) → test j ≡ true → j ≡ k
  is_key j t = text_is j k (sym (tells j) ∙ t)

  put_at : (js : List Text) (vs : List Text) (v : Text) → length js ≡ length vs → position_or_len test js < length js → put_key (zipped js vs) k v ≡ zipped js (slice_set vs (position_or_len test js) v)
  put_at [] vs v e lt = absurd (omega arith)
  put_at (j ∷ js) [] v e lt = absurd (omega (arith, e))
  put_at (j ∷ js) (w ∷ ws) v e lt = by (test j) refl (λ less. put_at js ws v (omega (arith, e)) less)
    where
      by : (b : Bool) → test j ≡ b → (position_or_len test js < length js → put_key (zipped js ws) k v ≡ zipped js (slice_set ws (position_or_len test js) v)) → put_key (zipped (j ∷ js) (w ∷ ws)) k v ≡ zipped (j ∷ js) (slice_set (w ∷ ws) (position_or_len test (j ∷ js)) v)
      by true t rest =
          cond-true _ _ _ (sym (tells j) ∙ t) ∙ ap (λ q. (q, v) ∷ zipped js ws) (sym (is_key j t))
          ∙ sym (ap (λ i. zipped (j ∷ js) (slice_set (w ∷ ws) i v)) (at_first j js t))
      by false t rest =
          cond-false _ _ _ (sym (tells j) ∙ t) ∙ ap (λ ps. (j, w) ∷ ps) (rest (omega (arith, lt, later j js t)))
          ∙ sym (ap (λ i. zipped (j ∷ js) (slice_set (w ∷ ws) i v)) (later j js t))

  put_last : (js : List Text) (vs : List Text) (v : Text) → length js ≡ length vs → list_any test js ≡ false → put_key (zipped js vs) k v ≡ zipped (js ++ k ∷ []) (vs ++ v ∷ [])
  put_last [] [] v e n = refl
  put_last [] (w ∷ ws) v e n = absurd (omega (arith, e))
  put_last (j ∷ js) [] v e n = absurd (omega (arith, e))
  put_last (j ∷ js) (w ∷ ws) v e n =
      let no = or_parts (test j) (list_any test js) n in
      cond-false _ _ _ (sym (tells j) ∙ no.0) ∙ ap (λ ps. (j, w) ∷ ps) (put_last js ws v (omega (arith, e)) no.1)

  found_at : (js : List Text) (vs : List Text) → length js ≡ length vs → position_or_len test js < length js → value_at k (zipped js vs) ≡ slice_get vs (position_or_len test js)
  found_at [] vs e lt = absurd (omega arith)
  found_at (j ∷ js) [] e lt = absurd (omega (arith, e))
  found_at (j ∷ js) (w ∷ ws) e lt = by (test j) refl (λ less. found_at js ws (omega (arith, e)) less)
    where
      by : (b : Bool) → test j ≡ b → (position_or_len test js < length js → value_at k (zipped js ws) ≡ slice_get ws (position_or_len test js)) → value_at k (zipped (j ∷ js) (w ∷ ws)) ≡ slice_get (w ∷ ws) (position_or_len test (j ∷ js))
      by true t rest = cond-true _ _ _ (sym (tells j) ∙ t) ∙ sym (ap (slice_get (w ∷ ws)) (at_first j js t))
      by false t rest = cond-false _ _ _ (sym (tells j) ∙ t) ∙ rest (omega (arith, lt, later j js t)) ∙ sym (ap (slice_get (w ∷ ws)) (later j js t))

  found_not : (js : List Text) (vs : List Text) → list_any test js ≡ false → value_at k (zipped js vs) ≡ None
  found_not [] vs n = refl
  found_not (j ∷ js) [] n = refl
  found_not (j ∷ js) (w ∷ ws) n =
      let no = or_parts (test j) (list_any test js) n in
      cond-false _ _ _ (sym (tells j) ∙ no.0) ∙ found_not js ws no.1

  without_at : (js : List Text) (vs : List Text) → length js ≡ length vs → position_or_len test js < length js → without_key k (zipped js vs) ≡ zipped (remove js (position_or_len test js)) (remove vs (position_or_len test js))
  without_at [] vs e lt = absurd (omega arith)
  without_at (j ∷ js) [] e lt = absurd (omega (arith, e))
  without_at (j ∷ js) (w ∷ ws) e lt = by (test j) refl (λ less. without_at js ws (omega (arith, e)) less)
    where
      taken : ℕ → Pairs
      taken i = zipped (remove (j ∷ js) i) (remove (w ∷ ws) i)

      by : (b : Bool) → test j ≡ b → (position_or_len test js < length js → without_key k (zipped js ws) ≡ zipped (remove js (position_or_len test js)) (remove ws (position_or_len test js))) → without_key k (zipped (j ∷ js) (w ∷ ws)) ≡ taken (position_or_len test (j ∷ js))
      by true t rest = cond-true _ _ _ (sym (tells j) ∙ t) ∙ sym (ap taken (at_first j js t))
      by false t rest = cond-false _ _ _ (sym (tells j) ∙ t) ∙ ap (λ ps. (j, w) ∷ ps) (rest (omega (arith, lt, later j js t))) ∙ sym (ap taken (later j js t))

  without_none : (js : List Text) (vs : List Text) → list_any test js ≡ false → without_key k (zipped js vs) ≡ zipped js vs
  without_none [] vs n = refl
  without_none (j ∷ js) [] n = refl
  without_none (j ∷ js) (w ∷ ws) n =
      let no = or_parts (test j) (list_any test js) n in
      cond-false _ _ _ (sym (tells j) ∙ no.0) ∙ ap (λ ps. (j, w) ∷ ps) (without_none js ws no.1)

some_is : (a b : ℕ) → Some a ≡ Some b → a ≡ b
some_is a b e = cc

some_none : (a : ℕ) → Some a ≡ None → ⊥
some_none a e = cc

-- where a key that passes stands
place_of : (p : Text → Bool) (js : List Text) (i : ℕ) → Some i ≡ position p js → (position_or_len p js ≡ i) × (position_or_len p js < length js)
place_of p js i e = elim (cases_lt (position_or_len p js) (length js)) [
  | inl l ↦ (sym (some_is _ _ (e ∙ cond-true _ _ _ (lt-ltb _ _ l))), l)
  | inr l ↦ absurd (some_none i (e ∙ cond-false _ _ _ (le-ltb _ _ l)))
]

texts_less : (vs : List Kept) (i : ℕ) → texts (remove vs i) ≡ remove (texts vs) i
texts_less [] zero = refl
texts_less [] (suc i) = refl
texts_less (v ∷ vs) zero = refl
texts_less (v ∷ vs) (suc i) = ap (λ ts. v.text ∷ ts) (texts_less vs i)

-- a key that is looked for
module _ (k : Text) (js : List Text) (vs : List Kept) (even : length js ≡ length vs) where
  abbrev test : Text → Bool
  test = bytes_eq k

  even_texts : length js ≡ length (texts vs)
  even_texts = even ∙ sym (length-map vs (λ (q : Kept). q.text))

  pub put_there : (v : Kept) (i : ℕ) → Some i ≡ position test js → zipped js (texts (slice_set vs i v)) ≡ put_key (zipped js (texts vs)) k v.text
  put_there v i at =
      let p = place_of test js i at in
      ap (zipped js) (map-set (λ (q : Kept). q.text) vs i v)
      ∙ sym (put_at test k (same_key k) js (texts vs) v.text even_texts p.1 ∙ ap (λ n. zipped js (slice_set (texts vs) n v.text)) p.0)

  pub put_behind : (key : Text) (v : Kept) → list_any test js ≡ false → key ≡ k → zipped (js ++ key ∷ []) (texts (vs ++ v ∷ [])) ≡ put_key (zipped js (texts vs)) k v.text
  put_behind key v none is =
      (λ n. zipped (js ++ is n ∷ []) (map-append (λ (q : Kept). q.text) vs (v ∷ []) n))
      ∙ sym (put_last test k (same_key k) js (texts vs) v.text even_texts none)

  pub found_there : (e : Kept) (i : ℕ) → Some i ≡ position test js → e ≡ get_or vs i e → Some e.text ≡ value_at k (zipped js (texts vs))
  found_there e i at is =
      let p = place_of test js i at in
      let within : i < length vs = omega (arith, p.0, p.1, even) in
      sym (found_at test k (same_key k) js (texts vs) even_texts p.1
      ∙ ap (slice_get (texts vs)) p.0
      ∙ text_at vs i e within is)
    where
      text_at : (ks : List Kept) (n : ℕ) (k : Kept) → n < length ks → k ≡ get_or ks n k → slice_get (texts ks) n ≡ Some k.text
      text_at [] n k l is = absurd (omega arith)
      text_at (x ∷ ks) zero k l is = ap (λ (q : Kept). Some q.text) (sym is)
      text_at (x ∷ ks) (suc n) k l is = text_at ks n k (omega (arith, l)) is

  pub found_nowhere : list_any test js ≡ false → None ≡ value_at k (zipped js (texts vs))
  found_nowhere none = sym (found_not test k (same_key k) js (texts vs) none)

  pub taken_out : (i : ℕ) → Some i ≡ position test js → zipped (remove js i) (texts (remove vs i)) ≡ without_key k (zipped js (texts vs))
  taken_out i at =
      let p = place_of test js i at in
      ap (zipped (remove js i)) (texts_less vs i)
      ∙ sym (without_at test k (same_key k) js (texts vs) even_texts p.1 ∙ ap (λ n. zipped (remove js n) (remove (texts vs) n)) p.0)

  pub none_out : list_any test js ≡ false → zipped js (texts vs) ≡ without_key k (zipped js (texts vs))
  none_out none = sym (without_none test k (same_key k) js (texts vs) none)

-- the same of another key with the same text
pub alike_at : {a k : Text} (js : List Text) (i : ℕ) → a ≡ k → Some i ≡ position (bytes_eq a) js → Some i ≡ position (bytes_eq k) js
alike_at js i is at = at ∙ ap (λ t. position (bytes_eq t) js) is

pub alike_none : {a k : Text} (js : List Text) → a ≡ k → false ≡ list_any (bytes_eq a) js → list_any (bytes_eq k) js ≡ false
alike_none js is none = ap (λ t. list_any (bytes_eq t) js) (sym is) ∙ sym none

-- ---- keys and values of the pairs

keys_zipped : (ks vs : List Text) → length ks ≡ length vs → keys_of (zipped ks vs) ≡ ks
keys_zipped [] vs e = refl
keys_zipped (k ∷ ks) [] e = absurd (omega (arith, e))
keys_zipped (k ∷ ks) (v ∷ vs) e = ap (λ x. k ∷ x) (keys_zipped ks vs (omega (arith, e)))

values_zipped : (ks vs : List Text) → length ks ≡ length vs → values_of (zipped ks vs) ≡ vs
values_zipped [] [] e = refl
values_zipped [] (v ∷ vs) e = absurd (omega (arith, e))
values_zipped (k ∷ ks) [] e = absurd (omega (arith, e))
values_zipped (k ∷ ks) (v ∷ vs) e = ap (λ x. v ∷ x) (values_zipped ks vs (omega (arith, e)))

even_in : (js : List Text) (vs : List Kept) → length js ≡ length vs → length js ≡ length (texts vs)
even_in js vs e = e ∙ sym (length-map vs (λ (q : Kept). q.text))

pub keys_in : (js : List Text) (vs : List Kept) → length js ≡ length vs → keys_of (zipped js (texts vs)) ≡ js
keys_in js vs e = keys_zipped js (texts vs) (even_in js vs e)

pub values_in : (js : List Text) (vs : List Kept) → length js ≡ length vs → values_of (zipped js (texts vs)) ≡ texts vs
values_in js vs e = values_zipped js (texts vs) (even_in js vs e)

pub count_in : (js : List Text) (vs : List Kept) → length js ≡ length vs → length (zipped js (texts vs)) ≡ length vs
count_in js vs e =
    sym (length-map (zipped js (texts vs)) (λ (p : Text × Text). p.1)) ∙ ap length (values_in js vs e) ∙ length-map vs (λ (q : Kept). q.text)

-- keys that are copied
pub same_keys : (js ks : List Text) → AllZip (λ (j k : Text). k ≡ j) js ks → js ≡ ks
same_keys [] [] h = refl
same_keys [] (k ∷ ks) h = absurd h
same_keys (j ∷ js) [] h = absurd h
same_keys (j ∷ js) (k ∷ ks) h = (λ n. sym h.0 n ∷ same_keys js ks h.1 n)
