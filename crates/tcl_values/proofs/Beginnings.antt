-- Characters counted by their first bytes.
use Rattle.std.proofs.Common.{◌≡◌, ◌≤◌, ◌<◌, ◌+◌, ◌-◌, ◌*◌, ◌/◌, ℕ, zero, suc, Bool, true, false, cond, ◌||◌, List, [], ◌∷◌, ◌++◌, length, take, drop, min, length-take, length-append, inl, inr, ◌⊎◌, ap, ap₂, sym, subst, refl, ◌∙◌, arith}
use Rattle.std.proofs.Math.Utf8.{encode, encodes, next}
use Rattle.std.proofs.lemmas.Bool.{ltb-true, cases_lt, lt-ltb, le-ltb}
use Rattle.std.proofs.Math.Nat.{eq-or-lt_of_le}
use Rattle.std.proofs.Math.Seq.{take-add, drop-append-add, get_or-append_seam}
use Rattle.std.proofs.lemmas.List.{take_more, take_all, drop-drop, take-append-drop, drop-take, take-append-le, get_or_append_left, length-drop}
use Rattle.std.proofs.Math.ListN.{drop_of_length-le}
use Rattle.std.proofs.lemmas.Str.{encodes-chars, chars-append, IsUtf8-take, chars-nil, chars-IsAscii, IsAscii-drop, IsAscii-take}
use Rattle.std.specs.List.{slice_range}
use Rattle.std.specs.Prelude.{nat_lt, slice_index}
use Rattle.tcl_chars.specs.Place.{EndsWith}
use Rattle.tcl_chars.proofs.Ends.{ends_drop}
use Rattle.std.specs.Str.{chars, IsUtf8, IsCharBoundary, IsAscii}
use Rattle.tcl_values.proofs.Growth.{bytes_of_known, bytes_behind}
use Rattle.tcl_values.specs.Marks.{begins, starts, AreMarks, BeginsAt}

both : (b : Bool) (m n k : ℕ) → m ≡ n + k → cond b (suc m) m ≡ cond b (suc n) n + k
both true m n k e = omega (arith, e)
both false m n k e = e

pub starts-append : (xs ys : List ℕ) → starts (xs ++ ys) ≡ starts xs + starts ys
starts-append [] ys = omega arith
starts-append (x ∷ xs) ys = both (begins x) (starts (xs ++ ys)) (starts xs) (starts ys) (starts-append xs ys)

-- a byte with which a character begins, and one with which none does
begin : (b : ℕ) (bs : List ℕ) → begins b ≡ true → starts (b ∷ bs) ≡ suc (starts bs)
begin b bs e = ap (λ t. cond t (suc (starts bs)) (starts bs)) e

begin_no : (b : ℕ) (bs : List ℕ) → begins b ≡ false → starts (b ∷ bs) ≡ starts bs
begin_no b bs e = ap (λ t. cond t (suc (starts bs)) (starts bs)) e

or_true : (a b : Bool) → b ≡ true → (a || b) ≡ true
or_true true b e = refl
or_true false b e = e

low : (b : ℕ) → b < 128 → begins b ≡ true
low b l = ap (λ t. t || nat_lt 191 b) (lt-ltb b 128 l)

high : (b : ℕ) → 192 ≤ b → begins b ≡ true
high b l = or_true (nat_lt b 128) (nat_lt 191 b) (lt-ltb 191 b (omega (arith, l)))

later : (b : ℕ) → begins (next b) ≡ false
later b = ap₂ (λ s t. s || t) (le-ltb (next b) 128 (omega arith)) (le-ltb 191 (next b) (omega arith))

by_width : (c : ℕ) (a b d : Bool) → nat_lt c 128 ≡ a → starts (cond a (c ∷ []) (cond b ((192 + c / 64) ∷ next c ∷ []) (cond d ((224 + c / 4096) ∷ next (c / 64) ∷ next c ∷ []) ((240 + c / 262144) ∷ next (c / 4096) ∷ next (c / 64) ∷ next c ∷ [])))) ≡ 1
by_width c true b d e = begin c [] (low c (ltb-true c 128 e))
by_width c false true d e = begin (192 + c / 64) (next c ∷ []) (high (192 + c / 64) (omega arith)) ∙ ap suc (begin_no (next c) [] (later c))
by_width c false false true e =
    begin (224 + c / 4096) (next (c / 64) ∷ next c ∷ []) (high (224 + c / 4096) (omega arith))
    ∙ ap suc (begin_no (next (c / 64)) (next c ∷ []) (later (c / 64)) ∙ begin_no (next c) [] (later c))
by_width c false false false e =
    begin (240 + c / 262144) (next (c / 4096) ∷ next (c / 64) ∷ next c ∷ []) (high (240 + c / 262144) (omega arith))
    ∙ ap suc (begin_no (next (c / 4096)) (next (c / 64) ∷ next c ∷ []) (later (c / 4096)) ∙ begin_no (next (c / 64)) (next c ∷ []) (later (c / 64)) ∙ begin_no (next c) [] (later c))

one_start : (c : ℕ) → starts (encode c) ≡ 1
unfolding encode
one_start c = by_width c (nat_lt c 128) (nat_lt c 2048) (nat_lt c 65536) refl

starts-encodes : (cs : List ℕ) → starts (encodes cs) ≡ length cs
starts-encodes [] = refl
starts-encodes (c ∷ cs) = omega (arith, starts-append (encode c) (encodes cs), one_start c, starts-encodes cs)

-- a text has as many characters as begin in it
pub starts_chars : (bs : List ℕ) → IsUtf8 bs → starts bs ≡ length (chars bs)
starts_chars bs u = ap starts (sym (encodes-chars bs u)) ∙ starts-encodes (chars bs)

-- ---- places in bytes

at_most : (b : Bool) (m n : ℕ) → m ≤ n → cond b (suc m) m ≤ suc n
at_most true m n l = omega (arith, l)
at_most false m n l = omega (arith, l)

pub starts_le : (bs : List ℕ) → starts bs ≤ length bs
starts_le [] = omega arith
starts_le (b ∷ bs) = at_most (begins b) (starts bs) (length bs) (starts_le bs)

pub starts_front_le : (bs : List ℕ) (i : ℕ) → starts (take i bs) ≤ i
starts_front_le bs i = omega (arith, starts_le (take i bs), length-take i bs)

-- one byte more
pub starts_more : (bs : List ℕ) (i : ℕ) → i < length bs → starts (take (i + 1) bs) ≡ starts (take i bs) + starts (slice_index bs i ∷ [])
starts_more bs i l = ap starts (take_more bs i 0 l) ∙ starts-append (take i bs) (slice_index bs i ∷ [])

pub one_byte : (b : ℕ) → starts (b ∷ []) ≤ 1
one_byte b = starts_le (b ∷ [])

pub starts_none : (bs : List ℕ) → 0 ≡ starts (take (64 * 0) bs)
starts_none bs = refl

-- a byte with which no character begins
pub passed_over : (bs : List ℕ) (i n : ℕ) → i < length bs → starts (slice_index bs i ∷ []) ≡ 0 → starts (take i bs) ≡ n → starts (take (i + 1) bs) ≡ n
passed_over bs i n l e h = omega (arith, starts_more bs i l, e, h)

lead : (b : ℕ) (x y : Bool) → nat_lt b 128 ≡ x → nat_lt 191 b ≡ y → ¬ (starts (b ∷ []) ≡ 0) → 128 ≤ b → 192 ≤ b
lead b true y e f h l = absurd (omega (arith, ltb-true b 128 e, l))
lead b false true e f h l = omega (arith, ltb-true 191 b f)
lead b false false e f h l = absurd (h (begin_no b [] (ap₂ (λ s t. s || t) e f)))

-- a byte with which one begins
pub begins_there : (bs : List ℕ) (i : ℕ) → i < length bs → ¬ (starts (slice_index bs i ∷ []) ≡ 0) → IsCharBoundary bs i
begins_there bs i l h = (omega (arith, l), λ m n. lead (slice_index bs i) (nat_lt (slice_index bs i) 128) (nat_lt 191 (slice_index bs i)) refl refl h n)

pub at_end : (bs : List ℕ) (i : ℕ) → i ≤ length bs → length bs ≤ i → IsCharBoundary bs i
at_end bs i l m = (l, λ n. absurd (omega (arith, m, n)))

-- ---- marks

starts_split : (bs : List ℕ) (i : ℕ) → starts bs ≡ starts (take i bs) + starts (drop i bs)
starts_split bs i = ap starts (sym (take-append-drop i bs)) ∙ starts-append (take i bs) (drop i bs)

pub counted : (bs : List ℕ) (i : ℕ) → IsUtf8 bs → starts (take i bs) + starts (drop i bs) ≡ length (chars bs)
counted bs i u = sym (starts_split bs i) ∙ starts_chars bs u

pub rest_counted : (bytes bs : List ℕ) (i : ℕ) → bytes ≡ bs → starts (slice_range bytes i (length bytes)) ≡ starts (drop i bs)
rest_counted bytes bs i e = ap starts (take_all (length bytes - i) (drop i bytes) (omega (arith, length-drop i bytes)) ∙ ap (drop i) e)

-- the characters behind a place at which one begins
pub behind_place : (bs : List ℕ) (i n : ℕ) → IsUtf8 bs → IsCharBoundary bs i → starts (take i bs) ≤ n → drop n (chars bs) ≡ drop (n - starts (take i bs)) (chars (drop i bs))
behind_place bs i n u b l =
    let front : IsUtf8 (take i bs) = IsUtf8-take bs i u b in
    let many : starts (take i bs) ≡ length (chars (take i bs)) = starts_chars (take i bs) front in
    let parts : chars bs ≡ chars (take i bs) ++ chars (drop i bs) = ap chars (sym (take-append-drop i bs)) ∙ chars-append (take i bs) (drop i bs) front in
    let split : n ≡ length (chars (take i bs)) + (n - starts (take i bs)) = omega (arith, l, many) in
    ap (drop n) parts ∙ ap (λ k. drop k (chars (take i bs) ++ chars (drop i bs))) split ∙ drop-append-add (chars (take i bs)) (chars (drop i bs)) (n - starts (take i bs))

-- one block more
block_more : (bs : List ℕ) (p : ℕ) → starts (take (p + 64) bs) ≡ starts (take p bs) + starts (take 64 (drop p bs))
block_more bs p = ap starts (take-add p 64 bs) ∙ starts-append (take p bs) (take 64 (drop p bs))

-- all bytes that the count goes over
pub counted_le : (bs : List ℕ) (i : ℕ) → starts (take i bs) + starts (drop i bs) ≤ length bs
counted_le bs i = omega (arith, starts_split bs i, starts_le bs)

-- what begins in the blocks of a mark that was found
pub passed_le : (ms bs : List ℕ) (k p : ℕ) → AreMarks ms bs → k ≤ length ms → (0 < k → slice_index ms (k - 1) ≤ p) → starts (take (64 * k) bs) ≤ p
passed_le ms bs zero p a l h = let none : starts (take (64 * 0) bs) ≡ 0 = refl in omega (arith, none)
passed_le ms bs (suc k) p a l h =
    let places : 64 * suc k ≡ 64 * (k + 1) = omega arith in
    let one : suc k - 1 ≡ k = omega arith in
    let same : starts (take (64 * suc k) bs) ≡ slice_index ms (suc k - 1) = ap (λ n. starts (take n bs)) places ∙ sym (a.counts k (omega (arith, l))) ∙ ap (slice_index ms) (sym one) in
    omega (arith, same, h (omega arith))

-- characters that are left behind a place
pub left_from : (bs rest end : List ℕ) (at next left p : ℕ) → chars end ≡ drop left (chars rest) → rest ≡ drop next bs → IsUtf8 bs → BeginsAt at next bs
    → starts (take at bs) + left ≡ p → chars end ≡ drop p (chars bs)
left_from bs rest end at next left p e r u b s =
    let few : starts (take next bs) ≤ p = omega (arith, b.passed, s) in
    let many : p - starts (take next bs) ≡ left = omega (arith, b.passed, s) in
    e ∙ ap (λ t. drop left (chars t)) r ∙ sym (behind_place bs next p u b.boundary few ∙ ap (λ n. drop n (chars (drop next bs))) many)

pub left_counted : (ms bs bytes : List ℕ) (k at left p n : ℕ) → bytes ≡ bs → starts (take at bytes) + left ≡ starts (take (64 * k) bytes) + (p - n) → n ≡ starts (take (64 * k) bs)
    → AreMarks ms bs → k ≤ length ms → (0 < k → slice_index ms (k - 1) ≤ p) → starts (take at bs) + left ≡ p
left_counted ms bs bytes k at left p n e s f a l h =
    let same : starts (take at bs) + left ≡ starts (take (64 * k) bs) + (p - n) = subst (λ t. starts (take at t) + left ≡ starts (take (64 * k) t) + (p - n)) e s in
    omega (arith, same, f, passed_le ms bs k p a l h)

-- a block more
block_starts : (bs : List ℕ) (p : ℕ) → starts (slice_range bs p (p + 64)) ≡ starts (take 64 (drop p bs))
block_starts bs p = let size : (p + 64) - p ≡ 64 = omega arith in ap (λ n. starts (take n (drop p bs))) size

pub counted_block : (bs : List ℕ) (p n : ℕ) → n ≡ starts (take p bs) → n + starts (slice_range bs p (p + 64)) ≡ starts (take (p + 64) bs)
counted_block bs p n e = ap₂ (λ a b. a + b) e (block_starts bs p) ∙ sym (block_more bs p)

pub block_short : (bs : List ℕ) (p : ℕ) → length (slice_range bs p (p + 64)) ≤ 64
block_short bs p =
    let size : length (slice_range bs p (p + 64)) ≡ min ((p + 64) - p) (length (drop p bs)) = length-take ((p + 64) - p) (drop p bs) in
    omega (arith, size)

pub rest_short : (bs : List ℕ) (p : ℕ) → length bs - p ≤ 64 → length (slice_range bs p (length bs)) ≤ 64
rest_short bs p l =
    let size : length (slice_range bs p (length bs)) ≡ min (length bs - p) (length (drop p bs)) = length-take (length bs - p) (drop p bs) in
    omega (arith, size, l)

-- the rest behind what was counted
pub whole_counted : (bs : List ℕ) (p n : ℕ) → n ≡ starts (take p bs) → n + starts (slice_range bs p (length bs)) ≡ starts bs
whole_counted bs p n e = ap₂ (λ a b. a + b) e (rest_counted bs bs p refl) ∙ sym (starts_split bs p)

-- a block that is passed over
pub block_passed : (bs : List ℕ) (p begun left all : ℕ) → begun ≡ starts (slice_range bs p (p + 64)) → starts (take p bs) + left ≡ all → begun ≤ left
    → starts (take (p + 64) bs) + (left - begun) ≡ all
block_passed bs p begun left all h e l =
    let more : starts (take p bs) + starts (slice_range bs p (p + 64)) ≡ starts (take (p + 64) bs) = counted_block bs p (starts (take p bs)) refl in
    omega (arith, more, h, e, l)

-- a mark more
next_count : (ms bs : List ℕ) (n j : ℕ) → AreMarks ms bs → n ≡ starts (take (64 * (length ms + 1)) bs) → (j ≡ length ms) ⊎ (j < length ms) → slice_index (ms ++ n ∷ []) j ≡ starts (take (64 * (j + 1)) bs)
next_count ms bs n j a e (inl at) = ap (slice_index (ms ++ n ∷ [])) at ∙ get_or-append_seam ms n [] 0 ∙ e ∙ ap (λ k. starts (take (64 * (k + 1)) bs)) (sym at)
next_count ms bs n j a e (inr l) = get_or_append_left ms (n ∷ []) 0 j l ∙ a.counts j l

pub mark_more : (ms new bs : List ℕ) (place n : ℕ) → AreMarks ms bs → place ≡ 64 * length ms → place + 64 ≤ length bs → n ≡ starts (take (place + 64) bs) → new ≡ ms ++ n ∷ [] → AreMarks new bs
mark_more ms new bs place n a e l h is =
    let upto : place + 64 ≡ 64 * (length ms + 1) = omega (arith, e) in
    let counted : n ≡ starts (take (64 * (length ms + 1)) bs) = h ∙ ap (λ k. starts (take k bs)) upto in
    let longer : length (ms ++ n ∷ []) ≡ length ms + 1 = length-append ms (n ∷ []) in
    subst (λ l. AreMarks l bs) (sym is) (record {
      within = omega (arith, longer, upto, l);
      counts = λ j m. next_count ms bs n j a counted (eq-or-lt_of_le (omega (arith, longer, m)));
    })

-- ---- places among characters

pub before_drop : (t : List ℕ) (k : ℕ) → take (length t - length (drop k t)) t ≡ take k t
before_drop t k = elim (cases_lt k (length t)) [
  | inl l ↦ let e : length t - length (drop k t) ≡ k = omega (arith, l, length-drop k t) in ap (λ n. take n t) e
  | inr l ↦ let e : length t - length (drop k t) ≡ length t = omega (arith, l, length-drop k t) in ap (λ n. take n t) e ∙ take_all (length t) t (omega arith) ∙ sym (take_all k t l)
]

-- what stands between two places
pub part_is : (t : List ℕ) (i j : ℕ) → i ≤ j → take (length (drop i t) - length (drop j t)) (drop i t) ≡ drop i (take j t)
part_is t i j l =
    let all : i + (j - i) ≡ j = omega (arith, l) in
    let rest : drop j t ≡ drop (j - i) (drop i t) = sym (drop-drop (j - i) i t ∙ ap (λ n. drop n t) all) in
    ap (λ r. take (length (drop i t) - length r) (drop i t)) rest ∙ before_drop (drop i t) (j - i) ∙ sym (drop-take i (j - i) t) ∙ ap (λ n. drop i (take n t)) all

pub rest_of : (t : List ℕ) (i j : ℕ) → i ≤ j → EndsWith (drop i t) (drop j t)
rest_of t i j l =
    let all : i + (j - i) ≡ j = omega (arith, l) in
    subst (EndsWith (drop i t)) (drop-drop (j - i) i t ∙ ap (λ n. drop n t) all) (ends_drop (j - i) (drop i t))

pub nothing_between : (t : List ℕ) (i j : ℕ) → j ≤ i → chars [] ≡ drop i (take j t)
nothing_between t i j l = chars-nil ∙ sym (drop_of_length-le (take j t) (omega (arith, length-take j t, l)))

pub ends_both : (s t u v : List ℕ) → s ≡ u → t ≡ v → EndsWith u v → EndsWith s t
ends_both s t u v e f h = subst (λ x. EndsWith x t) (sym e) (subst (EndsWith u) (sym f) h)

-- ---- ASCII

pub ascii_end : (bs t : List ℕ) (k : ℕ) → bs ≡ t → length bs ≤ k → chars [] ≡ drop k t
ascii_end bs t k e l = chars-nil ∙ sym (drop_of_length-le bs l) ∙ ap (drop k) e

pub ascii_rest : (bs t rest : List ℕ) (k : ℕ) → IsAscii bs → chars bs ≡ t → rest ≡ drop k bs → chars rest ≡ drop k t
ascii_rest bs t rest k h e r = ap chars r ∙ chars-IsAscii (drop k bs) (IsAscii-drop bs k h) ∙ ap (drop k) (bytes_of_known bs t h e)

pub ascii_part : (bs t part : List ℕ) (a b : ℕ) → IsAscii bs → chars bs ≡ t → part ≡ slice_range bs a b → a ≤ b → chars part ≡ drop a (take b t)
ascii_part bs t part a b h e r l =
    let all : a + (b - a) ≡ b = omega (arith, l) in
    ap chars r ∙ chars-IsAscii (slice_range bs a b) (IsAscii-take (drop a bs) (b - a) (IsAscii-drop bs a h)) ∙ sym (drop-take a (b - a) bs) ∙ ap (λ n. drop a (take n bs)) all
    ∙ ap (λ u. drop a (take b u)) (bytes_of_known bs t h e)

-- ---- texts that grow

pub no_marks : (bs : List ℕ) → AreMarks [] bs
no_marks bs = record { within = omega arith; counts = λ k l. absurd (omega (arith, l)) }

-- marks of a text are those of it with more behind it
pub marks_kept : (ms old more new : List ℕ) → new ≡ old ++ more → AreMarks ms old → AreMarks ms new
marks_kept ms old more new e a =
    let longer : length new ≡ length old + length more = ap length e ∙ length-append old more in
    record {
      within = omega (arith, longer, a.within);
      counts = λ k l. a.counts k l ∙ ap starts (sym (take-append-le (64 * (k + 1)) old more (omega (arith, a.within, l))) ∙ ap (take (64 * (k + 1))) (sym e));
    }

pub no_marks_of : (ms bs : List ℕ) → ms ≡ [] → AreMarks ms bs
no_marks_of ms bs e = subst (λ l. AreMarks l bs) (sym e) (no_marks bs)

pub marks_behind : (ms old more new : List ℕ) → IsUtf8 old → IsUtf8 more → IsUtf8 new → chars new ≡ chars old ++ chars more → AreMarks ms old → AreMarks ms new
marks_behind ms old more new u v w e a = marks_kept ms old more new (bytes_behind old more new u v w e) a
