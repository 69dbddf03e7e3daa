-- Where the finder of bytes finds a needle is where the definition has it.
use Rattle.std.proofs.Common.{◌≡◌, ◌≤◌, ◌<◌, ◌+◌, ◌-◌, ℕ, zero, suc, min, true, false, [], ◌∷◌, length, take, drop, Option, Some, None, ap, sym, ◌∙◌, subst, refl, arith, inl, inr, get_or-take, length-drop, length-take-le, drop-drop}
use Rattle.std.proofs.lemmas.Bool.{cases_Bool, and_parts, cond-true, cond-false, eqb-true, false≢true, lt-ltb, ltb-true, le-ltb, ltb-false, le-leb, leb-true, lt-leb, leb-false}
use Rattle.std.proofs.lemmas.List.{take_rest}
use Rattle.std.specs.Prelude.{ℤ, pos, negsuc, ◌+ℤ◌, nat_lt, nat_le, ◌==◌}
use Rattle.memchr.proofs.lemmas.MatchLemmas.{OccursAt-split, OccursAt-from_part}
use Rattle.memchr.specs.Find.{OccursAt, FindsNeedle, FindsLastNeedle}
use Rattle.tcl_chars.specs.Index.{clamp}
use Rattle.tcl_chars.specs.Truth.{is_beginning}
use Rattle.tcl_pages.specs.Strings.{places_of, found_at, is_before, first_from, ends_by, last_until}
use Rattle.tcl_pages.specs.Texts.{Text}
use Rattle.tcl_pages.proofs.FirstPlace.{begins}
use Rattle.tcl_strings.proofs.Bytes.{clamped_le}

-- ---- where the needle begins what is left

pub begun : (needle t : Text) → is_beginning needle t ≡ true → (length needle ≤ length t) × (take (length needle) t ≡ needle)
begun [] t h = (omega arith, refl)
begun (c ∷ cs) [] h = absurd (false≢true h)
begun (c ∷ cs) (d ∷ ds) h =
    let p = and_parts _ _ h in
    let more = begun cs ds p.1 in
    (omega (arith, more.0), ap (λ x. x ∷ take (length cs) ds) (sym (eqb-true c d p.0)) ∙ ap (λ t. c ∷ t) more.1)

occurs_begins : (hay needle : Text) (k : ℕ) → OccursAt hay needle k → is_beginning needle (drop k hay) ≡ true
occurs_begins hay needle k h = subst (λ t. is_beginning needle t ≡ true) (sym (OccursAt-split hay needle k h)) (begins needle _)

begins_occurs : (hay needle : Text) (k : ℕ) → k ≤ length hay → is_beginning needle (drop k hay) ≡ true → OccursAt hay needle k
begins_occurs hay needle k l h =
    let p = begun needle (drop k hay) h in
    OccursAt-from_part hay needle k (omega (arith, p.0, length-drop k hay)) p.1

-- ---- the first of the places that are not before the start

first_none : (needle t : Text) (start : ℤ) (k : ℕ) → ((j : ℕ) → j < length t → is_beginning needle (drop j t) ≡ true → is_before (k + j) start ≡ true)
    → first_from start (places_of needle k t) ≡ None
first_none needle [] start k h = refl
first_none needle (c ∷ cs) start k h =
    let later = first_none needle cs start (suc k) (λ j l b. subst (λ n. is_before n start ≡ true) (omega arith) (h (suc j) (omega arith) b)) in
    elim (cases_Bool (is_beginning needle (c ∷ cs))) [
      | inl y ↦ ap (first_from start) (cond-true _ _ _ y) ∙ cond-true _ _ _ (subst (λ n. is_before n start ≡ true) (omega arith) (h 0 (omega arith) y)) ∙ later
      | inr o ↦ ap (first_from start) (cond-false _ _ _ o) ∙ later
    ]

first_some : (needle t : Text) (start : ℤ) (k at : ℕ) → at < length t → is_beginning needle (drop at t) ≡ true → is_before (k + at) start ≡ false
    → ((j : ℕ) → j < at → is_beginning needle (drop j t) ≡ true → is_before (k + j) start ≡ true) → first_from start (places_of needle k t) ≡ Some (k + at)
first_some needle [] start k at l y b h = absurd (omega arith)
first_some needle (c ∷ cs) start k zero l y b h =
    let here : k + 0 ≡ k = omega arith in
    ap (first_from start) (cond-true _ _ _ y) ∙ cond-false _ _ _ (subst (λ n. is_before n start ≡ false) here b) ∙ ap (λ n. Some n) (sym here)
first_some needle (c ∷ cs) start k (suc at) l y b h =
    let there : k + suc at ≡ suc k + at = omega arith in
    let later = first_some needle cs start (suc k) at (omega arith) y (subst (λ n. is_before n start ≡ false) there b)
    (λ j l n. subst (λ n. is_before n start ≡ true) (omega arith) (h (suc j) (omega arith) n)) ∙ ap (λ n. Some n) (sym there) in
    elim (cases_Bool (is_beginning needle (c ∷ cs))) [
      | inl n ↦ ap (first_from start) (cond-true _ _ _ n) ∙ cond-true _ _ _ (subst (λ n. is_before n start ≡ true) (omega arith) (h 0 (omega arith) n)) ∙ later
      | inr o ↦ ap (first_from start) (cond-false _ _ _ o) ∙ later
    ]

is_before_clamped : (start : ℤ) (n j : ℕ) → j < n → is_before j start ≡ nat_lt j (clamp start n)
is_before_clamped (pos m) n j l =
    elim (cases_Bool (nat_lt j m)) [
      | inl y ↦ y ∙ sym (lt-ltb j (min m n) (omega (arith, ltb-true j m y)))
      | inr o ↦ o ∙ sym (le-ltb j (min m n) (omega (arith, ltb-false j m o)))
    ]
is_before_clamped (negsuc m) n j l = sym (le-ltb j 0 (omega arith))

-- what is found behind the start, at its place in the whole
begins_behind : (hay needle : Text) (from j : ℕ) → from ≤ j → j < length hay → is_beginning needle (drop j hay) ≡ true → OccursAt (drop from hay) needle (j - from)
begins_behind hay needle from j h l b =
    let there : from + (j - from) ≡ j = omega arith in
    begins_occurs (drop from hay) needle (j - from) (omega (arith, length-drop from hay))
    (subst (λ t. is_beginning needle t ≡ true) (sym (drop-drop (j - from) from hay ∙ ap (λ n. drop n hay) there)) b)

no_first : (needle hay : Text) (start : ℤ) → FindsNeedle (drop (clamp start (length hay)) hay) needle 0 None → first_from start (found_at needle hay) ≡ None
no_first [] hay start f = refl
no_first (c ∷ cs) hay start f =
    let from = clamp start (length hay) in
    first_none (c ∷ cs) hay start 0 (λ j l b.
    elim (cases_Bool (nat_lt j from)) [
      | inl y ↦ subst (λ n. is_before n start ≡ true) (omega arith) (is_before_clamped start (length hay) j l ∙ y)
      | inr o ↦ absurd (f (j - from) (omega arith) (omega (arith, length-drop from hay)) (begins_behind hay (c ∷ cs) from j (ltb-false j from o) l b))
    ])

is_first : (needle hay : Text) (start : ℤ) (place : ℕ) → 0 < length needle → FindsNeedle (drop (clamp start (length hay)) hay) needle 0 (Some place)
    → first_from start (found_at needle hay) ≡ Some (clamp start (length hay) + place)
is_first [] hay start place n f = absurd (omega arith)
is_first (c ∷ cs) hay start place n f =
    let from = clamp start (length hay) in
    let fits = f.1.fits in
    let within : from + place < length hay = omega (arith, length-drop from hay, fits) in
    let whole : 0 + (from + place) ≡ from + place = omega arith in
    first_some (c ∷ cs) hay start 0 (from + place) within
    (subst (λ t. is_beginning (c ∷ cs) t ≡ true) (drop-drop place from hay) (occurs_begins (drop from hay) (c ∷ cs) place f.1))
    (subst (λ n. is_before n start ≡ false) (omega arith) (is_before_clamped start (length hay) (from + place) within ∙ le-ltb (from + place) from (omega arith)))
    (λ j l b.
    elim (cases_Bool (nat_lt j from)) [
      | inl y ↦ subst (λ n. is_before n start ≡ true) (omega arith) (is_before_clamped start (length hay) j (omega arith) ∙ y)
      | inr o ↦
          let behind = ltb-false j from o in
          absurd (f.0.before (j - from) (omega arith) (omega arith) (begins_behind hay (c ∷ cs) from j behind (omega arith) b))
    ]) ∙ ap (λ n. Some n) whole

-- ---- the last of the places where it ends by the end

last_none : (needle t : Text) (size : ℕ) (end : ℤ) (found : Option ℕ) (k : ℕ)
    → ((j : ℕ) → j < length t → is_beginning needle (drop j t) ≡ true → ends_by size end (k + j) ≡ false) → last_until size end found (places_of needle k t) ≡ found
last_none needle [] size end found k h = refl
last_none needle (c ∷ cs) size end found k h =
    let later = λ (f : Option ℕ). last_none needle cs size end f (suc k) (λ j l b. subst (λ n. ends_by size end n ≡ false) (omega arith) (h (suc j) (omega arith) b)) in
    elim (cases_Bool (is_beginning needle (c ∷ cs))) [
      | inl y ↦ ap (last_until size end found) (cond-true _ _ _ y) ∙ later _ ∙ cond-false _ _ _ (subst (λ n. ends_by size end n ≡ false) (omega arith) (h 0 (omega arith) y))
      | inr o ↦ ap (last_until size end found) (cond-false _ _ _ o) ∙ later found
    ]

last_some : (needle t : Text) (size : ℕ) (end : ℤ) (found : Option ℕ) (k at : ℕ) → at < length t → is_beginning needle (drop at t) ≡ true
    → ends_by size end (k + at) ≡ true → ((j : ℕ) → at < j → j < length t → is_beginning needle (drop j t) ≡ true → ends_by size end (k + j) ≡ false)
    → last_until size end found (places_of needle k t) ≡ Some (k + at)
last_some needle [] size end found k at l y e h = absurd (omega arith)
last_some needle (c ∷ cs) size end found k zero l y e h =
    let here : k + 0 ≡ k = omega arith in
    let later = λ (f : Option ℕ). last_none needle cs size end f (suc k)
    (λ j l b. subst (λ n. ends_by size end n ≡ false) (omega arith) (h (suc j) (omega arith) (omega arith) b)) in
    ap (last_until size end found) (cond-true _ _ _ y) ∙ later _ ∙ cond-true _ _ _ (subst (λ n. ends_by size end n ≡ true) here e) ∙ ap (λ n. Some n) (sym here)
last_some needle (c ∷ cs) size end found k (suc at) l y e h =
    let there : k + suc at ≡ suc k + at = omega arith in
    let later = λ (f : Option ℕ). last_some needle cs size end f (suc k) at (omega arith) y (subst (λ n. ends_by size end n ≡ true) there e)
    (λ j a l b. subst (λ n. ends_by size end n ≡ false) (omega arith) (h (suc j) (omega arith) (omega arith) b)) ∙ ap (λ n. Some n) (sym there) in
    elim (cases_Bool (is_beginning needle (c ∷ cs))) [
      | inl n ↦ ap (last_until size end found) (cond-true _ _ _ n) ∙ later _
      | inr o ↦ ap (last_until size end found) (cond-false _ _ _ o) ∙ later found
    ]

none_below : (m n : ℕ) → clamp (negsuc m +ℤ pos 1) n ≡ 0
none_below m n = elim (cases_Bool (nat_le 2 (suc m))) [
  | inl y ↦ ap (λ z. clamp z n) (cond-true _ _ _ y)
  | inr o ↦
      let few : 1 - suc m ≡ 0 = omega arith in
      ap (λ z. clamp z n) (cond-false _ _ _ o) ∙ ap (λ k. min k n) few ∙ omega arith
]

ends_by_clamped : (size : ℕ) (end : ℤ) (n k : ℕ) → 0 < size → k + size ≤ n → ends_by size end k ≡ nat_le (k + size) (clamp (end +ℤ pos 1) n)
ends_by_clamped size (pos m) n k s l =
    elim (cases_Bool (nat_le (k + size) (suc m))) [
      | inl y ↦ y ∙ sym (le-leb (k + size) (min (m + 1) n) (omega (arith, leb-true (k + size) (suc m) y)))
      | inr o ↦ o ∙ sym (lt-leb (k + size) (min (m + 1) n) (omega (arith, leb-false (k + size) (suc m) o)))
    ]
ends_by_clamped size (negsuc m) n k s l =
    let none = none_below m n in
    sym (lt-leb (k + size) (clamp (negsuc m +ℤ pos 1) n) (omega (arith, none)))

-- what ends by a place stands in front of it
pub occurs_front : (hay needle : Text) (e j : ℕ) → e ≤ length hay → j + length needle ≤ e → OccursAt hay needle j → OccursAt (take e hay) needle j
occurs_front hay needle e j w l h = record {
  fits = omega (arith, length-take-le e hay w);
  reads = λ i b. get_or-take e hay (j + i) 0 (omega arith) ∙ h.reads i b;
}

pub occurs_whole : (hay needle : Text) (e j : ℕ) → e ≤ length hay → OccursAt (take e hay) needle j → (j + length needle ≤ e) × OccursAt hay needle j
occurs_whole hay needle e j w h =
    let fits = h.fits in
    let by : j + length needle ≤ e = omega (arith, length-take-le e hay w) in
    (by, record { fits = omega arith; reads = λ i b. sym (get_or-take e hay (j + i) 0 (omega arith)) ∙ h.reads i b })

no_last : (needle hay : Text) (end : ℤ) → FindsLastNeedle (take (clamp (end +ℤ pos 1) (length hay)) hay) needle None
    → last_until (length needle) end None (found_at needle hay) ≡ None
no_last [] hay end f = refl
no_last (c ∷ cs) hay end f =
    let e = clamp (end +ℤ pos 1) (length hay) in
    let w = clamped_le (end +ℤ pos 1) (length hay) in
    last_none (c ∷ cs) hay (length (c ∷ cs)) end None 0 (λ j l b.
    let occurs = begins_occurs hay (c ∷ cs) j (omega arith) b in
    let same = ends_by_clamped (length (c ∷ cs)) end (length hay) j (omega arith) occurs.fits in
    elim (cases_Bool (nat_le (j + length (c ∷ cs)) e)) [
      | inl y ↦ absurd (f j (omega arith) (omega (arith, leb-true _ _ y, length-take-le e hay w)) (occurs_front hay (c ∷ cs) e j w (leb-true _ _ y) occurs))
      | inr o ↦ subst (λ n. ends_by (length (c ∷ cs)) end n ≡ false) (omega arith) (same ∙ o)
    ])

is_last : (needle hay : Text) (end : ℤ) (place : ℕ) → 0 < length needle → FindsLastNeedle (take (clamp (end +ℤ pos 1) (length hay)) hay) needle (Some place)
    → last_until (length needle) end None (found_at needle hay) ≡ Some place
is_last [] hay end place n f = absurd (omega arith)
is_last (c ∷ cs) hay end place n f =
    let e = clamp (end +ℤ pos 1) (length hay) in
    let w = clamped_le (end +ℤ pos 1) (length hay) in
    let whole = occurs_whole hay (c ∷ cs) e place w f.1 in
    let by = whole.0 in
    let same : 0 + place ≡ place = omega arith in
    last_some (c ∷ cs) hay (length (c ∷ cs)) end None 0 place (omega arith) (occurs_begins hay (c ∷ cs) place whole.1)
    (subst (λ n. ends_by (length (c ∷ cs)) end n ≡ true) (omega arith) (ends_by_clamped (length (c ∷ cs)) end (length hay) place (omega arith) whole.1.fits ∙ le-leb _ _ by))
    (λ j a l b.
    let occurs = begins_occurs hay (c ∷ cs) j (omega arith) b in
    let same = ends_by_clamped (length (c ∷ cs)) end (length hay) j (omega arith) occurs.fits in
    elim (cases_Bool (nat_le (j + length (c ∷ cs)) e)) [
      | inl y ↦ absurd (f.0.after j (omega arith) (omega (arith, leb-true _ _ y, length-take-le e hay w)) (occurs_front hay (c ∷ cs) e j w (leb-true _ _ y) occurs))
      | inr o ↦ subst (λ n. ends_by (length (c ∷ cs)) end n ≡ false) (omega arith) (same ∙ o)
    ]) ∙ ap (λ n. Some n) same

-- ---- the finder's answers

pub none_found : (hay needle bytes ours : Text) (start : ℤ) (from : ℕ) → bytes ≡ hay → ours ≡ needle → from ≡ clamp start (length hay)
    → FindsNeedle (take (length bytes - from) (drop from bytes)) ours 0 None → first_from start (found_at needle hay) ≡ None
none_found hay needle bytes ours start from b o f h =
    let part = take_rest bytes from ∙ ap (λ t. drop from t) b ∙ ap (λ n. drop n hay) f in
    no_first needle hay start
    (subst (λ t. FindsNeedle (drop (clamp start (length hay)) hay) t 0 None) o (subst (λ t. FindsNeedle t ours 0 None) part h))

not_empty : (n : ℕ) → false ≡ (n == 0) → 0 < n
not_empty zero h = absurd (false≢true h)
not_empty (suc n) h = omega arith

pub first_found : (hay needle bytes ours : Text) (start : ℤ) (from place : ℕ) → false ≡ (length needle == 0) → bytes ≡ hay → ours ≡ needle → from ≡ clamp start (length hay)
    → FindsNeedle (take (length bytes - from) (drop from bytes)) ours 0 (Some place) → first_from start (found_at needle hay) ≡ Some (from + place)
first_found hay needle bytes ours start from place n b o f h =
    let part = take_rest bytes from ∙ ap (λ t. drop from t) b ∙ ap (λ n. drop n hay) f in
    is_first needle hay start place (not_empty _ n)
    (subst (λ t. FindsNeedle (drop (clamp start (length hay)) hay) t 0 (Some place)) o (subst (λ t. FindsNeedle t ours 0 (Some place)) part h))
    ∙ ap (λ n. Some (n + place)) (sym f)

pub last_of_part : (needle hay : Text) (end : ℤ) (r : Option ℕ) → 0 < length needle → FindsLastNeedle (take (clamp (end +ℤ pos 1) (length hay)) hay) needle r
    → last_until (length needle) end None (found_at needle hay) ≡ r
last_of_part needle hay end None n h = no_last needle hay end h
last_of_part needle hay end (Some place) n h = is_last needle hay end place n h

pub last_found : (hay needle bytes ours : Text) (end : ℤ) (behind : ℕ) (r : Option ℕ) → false ≡ (length needle == 0) → bytes ≡ hay → ours ≡ needle
    → behind ≡ clamp (end +ℤ pos 1) (length hay) → FindsLastNeedle (take behind bytes) ours r → last_until (length needle) end None (found_at needle hay) ≡ r
last_found hay needle bytes ours end behind r n b o f h =
    let part = ap (λ t. take behind t) b ∙ ap (λ n. take n hay) f in
    last_of_part needle hay end r (not_empty _ n)
    (subst (λ t. FindsLastNeedle (take (clamp (end +ℤ pos 1) (length hay)) hay) t r) o (subst (λ t. FindsLastNeedle t ours r) part h))

-- ---- walks that begin at the start, and end at the end

first_skip : (needle t : Text) (start : ℤ) (k j : ℕ) → j ≤ length t → ((i : ℕ) → i < j → is_before (k + i) start ≡ true)
    → first_from start (places_of needle (k + j) (drop j t)) ≡ first_from start (places_of needle k t)
first_skip needle t start k zero l h = let here : k + 0 ≡ k = omega arith in ap (λ n. first_from start (places_of needle n t)) here
first_skip needle [] start k (suc j) l h = absurd (omega (arith, l))
first_skip needle (c ∷ cs) start k (suc j) l h =
    let there : k + suc j ≡ suc k + j = omega arith in
    let here : k + 0 ≡ k = omega arith in
    let later = ap (λ n. first_from start (places_of needle n (drop j cs))) there
    ∙ first_skip needle cs start (suc k) j (omega (arith, l)) (λ i m. let one : k + suc i ≡ suc k + i = omega arith in subst (λ n. is_before n start ≡ true) one (h (suc i) (omega (arith, m)))) in
    elim (cases_Bool (is_beginning needle (c ∷ cs))) [
      | inl y ↦ later ∙ sym (ap (first_from start) (cond-true _ _ _ y) ∙ cond-true _ _ _ (subst (λ n. is_before n start ≡ true) here (h 0 (omega arith))))
      | inr o ↦ later ∙ sym (ap (first_from start) (cond-false _ _ _ o))
    ]

-- no place before the start is one that is sought
skipped : (needle t : Text) (start : ℤ) → first_from start (places_of needle (clamp start (length t)) (drop (clamp start (length t)) t)) ≡ first_from start (places_of needle 0 t)
skipped needle t start =
    let from = clamp start (length t) in
    let whole : 0 + from ≡ from = omega arith in
    let le : from ≤ length t = clamped_le start (length t) in
    ap (λ n. first_from start (places_of needle n (drop from t))) (sym whole)
    ∙ first_skip needle t start 0 from le (λ i l. let one : 0 + i ≡ i = omega arith in ap (λ n. is_before n start) one ∙ is_before_clamped start (length t) i (omega (arith, l, le)) ∙ lt-ltb i from l)

pub from_start : (needle t rest : Text) (start : ℤ) (place : ℕ) → place ≡ clamp start (length t) → rest ≡ drop place t
    → first_from start (places_of needle place rest) ≡ first_from start (places_of needle 0 t)
from_start needle t rest start place p r =
    ap (λ u. first_from start (places_of needle place u)) r ∙ ap (λ n. first_from start (places_of needle n (drop n t))) p ∙ skipped needle t start

pub left_from_start : (t rest : Text) (start : ℤ) (place count : ℕ) → place ≡ clamp start (length t) → count ≡ length t → rest ≡ drop place t → place + length rest ≡ count
left_from_start t rest start place count p n r =
    let size : length rest ≡ length (drop place t) = ap length r in
    omega (arith, p, n, size, length-drop place t, clamped_le start (length t))
