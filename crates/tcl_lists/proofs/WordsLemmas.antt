-- Words by their places.
use Rattle.std.proofs.Common.{◌≡◌, ◌≢◌, ℕ, ◌+◌, ◌≤◌, ◌<◌, ℤ, pos, negsuc, true, ltb-true, List, [], ◌∷◌, length, drop, take, ◌++◌, append_assoc, Ok, Err, sym, ap, ◌∙◌, refl, arith}
use Rattle.std.specs.Prelude.{◌+ℤ◌, int_lt}
use Rattle.tcl_chars.specs.Index.{clamp}
use Rattle.tcl_chars.specs.Messages.{about, number}
use Rattle.std.proofs.lemmas.List.{length-map}
use Rattle.tcl_chars.specs.Answers.{Stops}
use Rattle.tcl_chars.specs.declared.fault.Fault.{Fault}
use Rattle.tcl_lists.proofs.IndexLemmas.{stops_first, stops_same}
use Rattle.tcl_lists.specs.WordAt.{word}
use Rattle.tcl_pages.specs.Answers.{Answer, ◌>>=◌}
use Rattle.tcl_list.specs.Elements.{elements_of}
use Rattle.tcl_list.specs.Written.{written}
use Rattle.tcl_pages.specs.Lists.{index, replaced, llength, lreverse, lrange, linsert, lreplace, lrepeat, repeated, times}
use Rattle.tcl_pages.specs.Texts.{Text}
use Rattle.tcl_pages.specs.Usage.{usage}
use Rattle.tcl_chars.specs.Texts.{literal}
use Rattle.tcl_chars.specs.declared.numbers.Dialect.{Dialect}
use Rattle.tcl_values.specs.Kept.{Kept, texts}

pub three_words : (ws : List Text) → length ws ≡ 3 → ws ≡ word ws 0 ∷ word ws 1 ∷ word ws 2 ∷ []
three_words [] h = absurd (omega arith)
three_words (a ∷ []) h = absurd (omega arith)
three_words (a ∷ b ∷ []) h = absurd (omega arith)
three_words (a ∷ b ∷ c ∷ []) h = refl
three_words (a ∷ b ∷ c ∷ d ∷ ws) h = absurd (omega arith)

pub two_more : (ws : List Text) → 2 ≤ length ws → ws ≡ word ws 0 ∷ word ws 1 ∷ drop 2 ws
two_more [] h = absurd (omega arith)
two_more (a ∷ []) h = absurd (omega arith)
two_more (a ∷ b ∷ ws) h = refl

pub three_more : (ws : List Text) → 3 ≤ length ws → ws ≡ word ws 0 ∷ word ws 1 ∷ word ws 2 ∷ drop 3 ws
three_more [] h = absurd (omega arith)
three_more (a ∷ []) h = absurd (omega arith)
three_more (a ∷ b ∷ []) h = absurd (omega arith)
three_more (a ∷ b ∷ c ∷ ws) h = refl

-- ---- another count of words than the usage has

pub llength_usage : (ws : List Text) → length ws ≢ 1 → llength ws ≡ usage (literal "llength list")
llength_usage [] h = refl
llength_usage (a ∷ []) h = absurd (h refl)
llength_usage (a ∷ b ∷ ws) h = refl

pub lreverse_usage : (ws : List Text) → length ws ≢ 1 → lreverse ws ≡ usage (literal "lreverse list")
lreverse_usage [] h = refl
lreverse_usage (a ∷ []) h = absurd (h refl)
lreverse_usage (a ∷ b ∷ ws) h = refl

pub lrange_usage : (d : Dialect) (ws : List Text) → length ws ≢ 3 → lrange d ws ≡ usage (literal "lrange list first last")
lrange_usage d [] h = refl
lrange_usage d (a ∷ []) h = refl
lrange_usage d (a ∷ b ∷ []) h = refl
lrange_usage d (a ∷ b ∷ c ∷ []) h = absurd (h refl)
lrange_usage d (a ∷ b ∷ c ∷ e ∷ ws) h = refl

pub linsert_usage : (d : Dialect) (ws : List Text) → length ws < 2 → linsert d ws ≡ usage (literal "linsert list index ?element ...?")
linsert_usage d [] h = refl
linsert_usage d (a ∷ []) h = refl
linsert_usage d (a ∷ b ∷ ws) h = absurd (omega arith)

pub lreplace_usage : (d : Dialect) (ws : List Text) → length ws < 3 → lreplace d ws ≡ usage (literal "lreplace list first last ?element ...?")
lreplace_usage d [] h = refl
lreplace_usage d (a ∷ []) h = refl
lreplace_usage d (a ∷ b ∷ []) h = refl
lreplace_usage d (a ∷ b ∷ c ∷ ws) h = absurd (omega arith)

pub lrepeat_usage : (d : Dialect) (ws : List Text) → length ws ≡ 0 → lrepeat d ws ≡ usage (literal "lrepeat count ?element ...?")
lrepeat_usage d [] h = refl
lrepeat_usage d (a ∷ ws) h = absurd (omega arith)

-- ---- elements by their texts

pub count_is : (ks : List Kept) (es : List Text) → texts ks ≡ es → length ks ≡ length es
count_is ks es e = sym (length-map ks (λ (k : Kept). k.text)) ∙ ap length e

pub in_three : (m0 m1 m2 m3 a b c : List Text) → m0 ≡ [] → m1 ≡ m0 ++ a → m2 ≡ m1 ++ b → m3 ≡ m2 ++ c → m3 ≡ a ++ (b ++ c)
in_three m0 m1 m2 m3 a b c e0 e1 e2 e3 = e3 ∙ ap (λ t. t ++ c) (e2 ∙ ap (λ t. t ++ b) (e1 ∙ ap (λ t. t ++ a) e0)) ∙ append_assoc a b c

-- ---- what the commands answer

-- a place that a word says, by words that are still the same and a count of elements that is the same
at_place : (d : Dialect) (ws ws1 : List Text) (i n m : ℕ) (z : ℤ) → ws1 ≡ ws → n ≡ m → index d (word ws1 i) n ≡ Ok z → index d (word ws i) m ≡ Ok z
at_place d ws ws1 i n m z s e h = sym (ap (λ u. index d (word u i) n) s ∙ ap (index d (word ws i)) e) ∙ h

abbrev ranged : List Text → ℤ → ℤ → Answer Text
ranged xs p q = Ok (written (drop (clamp p (length xs)) (take (clamp (q +ℤ pos 1) (length xs)) xs)))

abbrev range_last : Dialect → Text → List Text → ℤ → Answer Text
range_last d last xs p = index d last (length xs) >>= ranged xs p

abbrev range_first : Dialect → Text → Text → List Text → Answer Text
range_first d first last xs = index d first (length xs) >>= range_last d last xs

pub lrange_is : (d : Dialect) (ws ws1 ws2 es : List Text) (n : ℕ) (f l : ℤ) (a b : ℕ) (ts : List Text) (v : Text) → length ws ≡ 3 → ws1 ≡ ws → ws2 ≡ ws1
    → elements_of (word ws 0) ≡ Ok es → n ≡ length es → index d (word ws1 1) n ≡ Ok f → index d (word ws2 2) n ≡ Ok l
    → a ≡ clamp f n → b ≡ clamp (l +ℤ pos 1) n → ts ≡ es → v ≡ written (drop a (take b ts)) → lrange d ws ≡ Ok v
lrange_is d ws ws1 ws2 es n f l a b ts v len s1 s2 e0 en e1 e2 ea eb et ev =
    ap (lrange d) (three_words ws len) ∙ ap (λ r. r >>= range_first d (word ws 1) (word ws 2)) e0 ∙ ap (λ r. r >>= range_last d (word ws 2) es) (at_place d ws ws1 1 n (length es) f s1 en e1)
    ∙ ap (λ r. r >>= ranged es f) (at_place d ws ws2 2 n (length es) l (s2 ∙ s1) en e2) ∙ ap Ok (sym (ev ∙ same))
  where
    same : written (drop a (take b ts)) ≡ written (drop (clamp f (length es)) (take (clamp (l +ℤ pos 1) (length es)) es))
    same = rw (ea, eb, et, en) refl

abbrev inserted_at : List Text → List Text → ℤ → Answer Text
inserted_at new xs p = Ok (written (replaced xs (clamp p (length xs)) (clamp p (length xs)) new))

abbrev insert_in : Dialect → Text → List Text → List Text → Answer Text
insert_in d i new xs = index d i (length xs + 1) >>= inserted_at new xs

pub linsert_is : (d : Dialect) (ws ws1 ws2 es : List Text) (n : ℕ) (z : ℤ) (a : ℕ) (ts : List Text) (v : Text) → 2 ≤ length ws → ws1 ≡ ws → ws2 ≡ ws1
    → elements_of (word ws 0) ≡ Ok es → n ≡ length es → index d (word ws1 1) (n + 1) ≡ Ok z
    → a ≡ clamp z n → ts ≡ es → v ≡ written (replaced ts a a (drop 2 ws2)) → linsert d ws ≡ Ok v
linsert_is d ws ws1 ws2 es n z a ts v len s1 s2 e0 en e1 ea et ev =
    ap (linsert d) (two_more ws len) ∙ ap (λ r. r >>= insert_in d (word ws 1) (drop 2 ws)) e0
    ∙ ap (λ r. r >>= inserted_at (drop 2 ws) es) (at_place d ws ws1 1 (n + 1) (length es + 1) z s1 (ap (λ k. k + 1) en) e1) ∙ ap Ok (sym (ev ∙ same))
  where
    same : written (replaced ts a a (drop 2 ws2)) ≡ written (replaced es (clamp z (length es)) (clamp z (length es)) (drop 2 ws))
    same = rw (ea, et, en, s2, s1) refl

abbrev replaced_at : List Text → List Text → ℤ → ℤ → Answer Text
replaced_at new xs p q = Ok (written (replaced xs (clamp p (length xs)) (clamp (q +ℤ pos 1) (length xs)) new))

abbrev replace_last : Dialect → Text → List Text → List Text → ℤ → Answer Text
replace_last d last new xs p = index d last (length xs) >>= replaced_at new xs p

abbrev replace_first : Dialect → Text → Text → List Text → List Text → Answer Text
replace_first d first last new xs = index d first (length xs) >>= replace_last d last new xs

pub lreplace_is : (d : Dialect) (ws ws1 ws2 ws3 es : List Text) (n : ℕ) (f l : ℤ) (a b : ℕ) (ts : List Text) (v : Text) → 3 ≤ length ws → ws1 ≡ ws → ws2 ≡ ws1 → ws3 ≡ ws2
    → elements_of (word ws 0) ≡ Ok es → n ≡ length es → index d (word ws1 1) n ≡ Ok f → index d (word ws2 2) n ≡ Ok l
    → a ≡ clamp f n → b ≡ clamp (l +ℤ pos 1) n → ts ≡ es → v ≡ written (replaced ts a b (drop 3 ws3)) → lreplace d ws ≡ Ok v
lreplace_is d ws ws1 ws2 ws3 es n f l a b ts v len s1 s2 s3 e0 en e1 e2 ea eb et ev =
    ap (lreplace d) (three_more ws len) ∙ ap (λ r. r >>= replace_first d (word ws 1) (word ws 2) (drop 3 ws)) e0
    ∙ ap (λ r. r >>= replace_last d (word ws 2) (drop 3 ws) es) (at_place d ws ws1 1 n (length es) f s1 en e1)
    ∙ ap (λ r. r >>= replaced_at (drop 3 ws) es f) (at_place d ws ws2 2 n (length es) l (s2 ∙ s1) en e2) ∙ ap Ok (sym (ev ∙ same))
  where
    same : written (replaced ts a b (drop 3 ws3)) ≡ written (replaced es (clamp f (length es)) (clamp (l +ℤ pos 1) (length es)) (drop 3 ws))
    same = rw (ea, eb, et, en, s3, s2, s1) refl

pub lreplace_first : (d : Dialect) (ws ws1 es : List Text) (n : ℕ) (f : Fault) → 3 ≤ length ws → ws1 ≡ ws → elements_of (word ws 0) ≡ Ok es → n ≡ length es → Stops f (index d (word ws1 1) n) → Stops f (lreplace d ws)
lreplace_first d ws ws1 es n f len s e0 en h =
    stops_same f (index d (word ws1 1) n >>= replace_last d (word ws 2) (drop 3 ws) es) (lreplace d ws)
    (ap (λ r. r >>= replace_last d (word ws 2) (drop 3 ws) es) (ap (λ u. index d (word u 1) n) s ∙ ap (index d (word ws 1)) en)
    ∙ sym (ap (lreplace d) (three_more ws len) ∙ ap (λ r. r >>= replace_first d (word ws 1) (word ws 2) (drop 3 ws)) e0))
    (stops_first f (index d (word ws1 1) n) (replace_last d (word ws 2) (drop 3 ws) es) h)

abbrev repeated_by : List Text → ℤ → Answer Text
repeated_by ws z = repeated (word ws 0) z (drop 1 ws)

counted : (d : Dialect) (ws : List Text) (t : Text) (z : ℤ) → length ws ≢ 0 → t ≡ word ws 0 → number d t ≡ Ok z → lrepeat d ws ≡ repeated_by ws z
counted d [] t z h w e = absurd (h refl)
counted d (a ∷ ws) t z h w e = ap (λ r. r >>= λ n. repeated a n ws) (ap (number d) (sym w) ∙ e)

pub lrepeat_negative : (d : Dialect) (ws : List Text) (t m : Text) (z : ℤ) → length ws ≢ 0 → t ≡ word ws 0 → number d t ≡ Ok z → int_lt z (pos 0) ≡ true → m ≡ about (literal "bad count") t (literal ": must be integer >= 0") → lrepeat d ws ≡ Err m
lrepeat_negative d ws t m z h w e l em = counted d ws t z h w e ∙ by_sign z l ∙ ap Err (sym (em ∙ ap (λ u. about (literal "bad count") u (literal ": must be integer >= 0")) w))
  where
    by_sign : (z : ℤ) → int_lt z (pos 0) ≡ true → repeated_by ws z ≡ Err (about (literal "bad count") (word ws 0) (literal ": must be integer >= 0"))
    by_sign (pos n) l = absurd (omega (arith, ltb-true n 0 l))
    by_sign (negsuc n) l = refl

pub lrepeat_is : (d : Dialect) (ws ws1 : List Text) (t v : Text) (z : ℤ) (n : ℕ) → length ws ≢ 0 → t ≡ word ws 0 → number d t ≡ Ok z → z ≡ pos n → ws1 ≡ ws → v ≡ written (times n (drop 1 ws1)) → lrepeat d ws ≡ Ok v
lrepeat_is d ws ws1 t v z n h w e ez s ev = counted d ws t z h w e ∙ ap (repeated_by ws) ez ∙ ap Ok (sym (ev ∙ ap (λ us. written (times n (drop 1 us))) s))
