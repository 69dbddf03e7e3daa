-- What a key tells of a name.
use Rattle.std.proofs.Common.{ℕ, suc, ◌+◌, ◌*◌, ◌-◌, ◌^◌, ◌<◌, ◌≤◌, ◌≡◌, ◌≢◌, Bool, true, false, not, cond, ◌==◌, ◌&&◌, nat_lt, List, [], ◌∷◌, ◌++◌, length, get_or, drop, refl, sym, ap, ◌∙◌, arith, Fits, w8}
use Rattle.std.proofs.lemmas.Bool.{eqb-true, eqb-false, ltb-true, not-true, and_parts}
use Rattle.std.proofs.lemmas.Grind.{pow_more}
use Rattle.std.proofs.Math.Nat.{pow-le-pow_right}
use Rattle.std.proofs.lemmas.List.{get_or_at, length-append, at_drop_more, at_drop_all}
use Rattle.std.proofs.lemmas.Str.{encodes-append, encodes-chars, byte_from_char}
use Rattle.std.specs.Char.{encode_utf8}
use Rattle.std.specs.Str.{chars, IsUtf8, encode_utf8_all}
use Rattle.tcl_chars.specs.Characters.{colon, close_paren}
use Rattle.tcl_chars.specs.Place.{begins}
use Rattle.tcl_names.specs.Keys.{has_key, packed, key_of, IsPlain, Tells}
use Rattle.tcl_names.specs.declared.key.NameKey.{NameKey}

-- ---- names of one key are the same

abbrev AreBytes : List ℕ → Type 0
AreBytes bs = (k : ℕ) → Fits w8 (get_or bs k 0)

same_packed : (m n : ℕ) (xs ys : List ℕ) → AreBytes xs → AreBytes ys → length xs ≡ length ys → packed m xs ≡ packed n ys → (m ≡ n) × (xs ≡ ys)
unfolding packed
same_packed m n [] [] p q l e = (e, refl)
same_packed m n [] (y ∷ ys) p q l e = absurd (omega (arith, l))
same_packed m n (x ∷ xs) [] p q l e = absurd (omega (arith, l))
same_packed m n (x ∷ xs) (y ∷ ys) p q l e =
    let fewer : length xs ≡ length ys = omega (arith, l) in
    let r = same_packed (m * 256 + x) (n * 256 + y) xs ys (λ k. p (suc k)) (λ k. q (suc k)) fewer e in
    let small : x < 256 = omega (arith, p 0) in
    let other : y < 256 = omega (arith, q 0) in
    let first : x ≡ y = omega (arith, r.0, small, other) in
    (omega (arith, r.0, small, other), ap (λ b. b ∷ xs) first ∙ ap (λ bs. y ∷ bs) r.1)

-- a name with a key
keyed : (bs : List ℕ) → key_of bs ≢ 0 → (has_key bs ≡ true) × (key_of bs ≡ packed 0 bs * 8 + length bs)
unfolding key_of
keyed bs some = by (has_key bs) refl
  where
    by : (b : Bool) → has_key bs ≡ b → (b ≡ true) × (cond (has_key bs) (packed 0 bs * 8 + length bs) 0 ≡ packed 0 bs * 8 + length bs)
    by true e = (refl, ap (λ c. cond c (packed 0 bs * 8 + length bs) 0) e)
    by false e = absurd (some (ap (λ c. cond c (packed 0 bs * 8 + length bs) 0) e))

-- what the test of the bytes tells
module _ (bs : List ℕ) (holds : has_key bs ≡ true) where
  abbrev some : Bool
  some = nat_lt 0 (length bs)

  abbrev few : Bool
  few = nat_lt (length bs) 8

  abbrev first : Bool
  first = not (get_or bs 0 0 == colon)

  abbrev last : Bool
  last = not (get_or bs (length bs - 1) 0 == close_paren)

  but_last : (some && few && first) ≡ true
  but_last = (and_parts (some && few && first) last holds).0

  pub short : length bs < 8
  short = ltb-true (length bs) 8 (and_parts some few (and_parts (some && few) first but_last).0).1

  no_colon_first : get_or bs 0 0 ≡ colon → ⊥
  no_colon_first = eqb-false _ _ (not-true _ (and_parts (some && few) first but_last).1)

  no_paren_last : get_or bs (length bs - 1) 0 ≡ close_paren → ⊥
  no_paren_last = eqb-false _ _ (not-true _ (and_parts (some && few && first) last holds).1)

pub same_key : (xs ys : List ℕ) → AreBytes xs → AreBytes ys → key_of xs ≢ 0 → key_of xs ≡ key_of ys → xs ≡ ys
same_key xs ys p q some e =
    let x = keyed xs some in
    let y = keyed ys (λ none. some (e ∙ none)) in
    let few = short xs x.0 in
    let so = short ys y.0 in
    let sum : packed 0 xs * 8 + length xs ≡ packed 0 ys * 8 + length ys = sym x.1 ∙ e ∙ y.1 in
    (same_packed 0 0 xs ys p q (omega (arith, sum, few, so)) (omega (arith, sum, few, so))).1

pub alike : (key other : NameKey) (xs ys : List ℕ) → AreBytes xs → AreBytes ys → Tells key xs → Tells other ys → key.number ≢ 0 → key.number ≡ other.number → chars xs ≡ chars ys
alike key other xs ys p q h k some e =
    let x = h some in
    let y = k (λ none. some (e ∙ none)) in
    ap chars (same_key xs ys p q (λ none. some (x ∙ none)) (sym x ∙ e ∙ y))

-- ---- a name with a key is plain

no_colon : (bs : List ℕ) → IsUtf8 bs → (get_or bs 0 0 ≡ colon → ⊥) → begins colon (chars bs) ≡ false
no_colon bs u h = by (chars bs) (encodes-chars bs u)
  where
    by : (cs : List ℕ) → encode_utf8_all cs ≡ bs → begins colon cs ≡ false
    by [] e = refl
    by (c ∷ cs) e = elim (c == colon) as (λ b. (c == colon) ≡ b → b ≡ false) [
      | true ↦ λ t. let same : c ≡ colon = eqb-true c colon t in absurd (h (byte_from_char bs (encode_utf8_all cs) c (sym e) (omega (arith, same)) ∙ same))
      | false ↦ λ t. refl
    ] refl

no_paren : (bs : List ℕ) → IsUtf8 bs → (get_or bs (length bs - 1) 0 ≡ close_paren → ⊥) → (front : List ℕ) → chars bs ≡ front ++ close_paren ∷ [] → ⊥
unfolding encode_utf8
no_paren bs u h front e = h (ended (encode_utf8_all front) (sym (encodes-chars bs u) ∙ ap encode_utf8_all e ∙ encodes-append front (close_paren ∷ [])))
  where
    ended : (front : List ℕ) → bs ≡ front ++ close_paren ∷ [] → get_or bs (length bs - 1) 0 ≡ close_paren
    ended front e =
        let size : length bs - 1 ≡ length front = omega (arith, ap length e, length-append front (close_paren ∷ [])) in
        ap (λ k. get_or bs k 0) size ∙ ap (λ t. get_or t (length front) 0) e ∙ get_or_at front close_paren [] 0 (length front) refl

pub plain : (key : NameKey) (bs : List ℕ) → IsUtf8 bs → Tells key bs → key.number ≢ 0 → IsPlain (chars bs)
plain key bs u h some =
    let x = h some in
    let k = keyed bs (λ none. some (x ∙ none)) in
    record { first = no_colon bs u (no_colon_first bs k.0); last = no_paren bs u (no_paren_last bs k.0) }

-- ---- the number fits

pub low_more : (n b i : ℕ) → n < 256 ^ i → b < 256 → n * 256 + b < 256 ^ (i + 1)
low_more n b i low small = omega (arith, pow_more 256 i, low, small)

pub low_enough : (n i : ℕ) → n < 256 ^ i → i < 8 → n < 2 ^ 56
low_enough n i low few =
    let within : i ≤ 7 = omega (arith, few) in
    let top : 256 ^ i ≤ 256 ^ 7 = pow-le-pow_right {n = 256} (omega arith) within in
    omega (arith, top, low)

pub some_number : (n : ℕ) → not (n == 0) ≡ true → n ≢ 0
some_number n holds = eqb-false _ _ (not-true _ holds)

pub same_number : (m n : ℕ) → (m == n) ≡ true → m ≡ n
same_number m n same = eqb-true m n same

pub packed_more : (bs : List ℕ) (n i : ℕ) (b : ℕ) → i < length bs → b ≡ get_or bs i 0 → packed n (drop i bs) ≡ packed (n * 256 + b) (drop (i + 1) bs)
unfolding packed
packed_more bs n i b low is = at_drop_more (packed n) bs i 0 low ∙ ap (λ d. packed (n * 256 + d) (drop (i + 1) bs)) (sym is)

pub packed_all : (bs : List ℕ) (n i : ℕ) → length bs ≤ i → packed n (drop i bs) ≡ n
unfolding packed
packed_all bs n i over = at_drop_all (packed n) bs i over

pub no_key : (bs : List ℕ) → has_key bs ≡ false → 0 ≡ key_of bs
unfolding key_of
no_key bs fails = sym (ap (λ c. cond c (packed 0 bs * 8 + length bs) 0) fails)

pub the_key : (n : ℕ) (bs : List ℕ) → n ≡ packed 0 bs → has_key bs ≡ true → n * 8 + length bs ≡ key_of bs
unfolding key_of
the_key n bs is holds = ap (λ m. m * 8 + length bs) is ∙ sym (ap (λ c. cond c (packed 0 bs * 8 + length bs) 0) holds)
