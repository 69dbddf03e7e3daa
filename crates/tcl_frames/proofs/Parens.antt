-- What a name is, by where the first `(` stands among its bytes.
use Rattle.std.proofs.Common.{◌≡◌, ℕ, zero, suc, ◌+◌, ◌-◌, ◌<◌, ◌≤◌, true, false, cond, ◌==◌, Bool, List, [], ◌∷◌, ◌++◌, length, take, drop, get_or, refl, sym, ap, subst, ◌∙◌, arith, append_assoc, take-append-drop, drop-cons, get_or-drop, length-drop, take_all}
use Rattle.std.proofs.lemmas.Bool.{cond-false, eqb-true, eqb-false}
use Rattle.std.proofs.lemmas.List.{drop_all}
use Rattle.std.proofs.lemmas.Str.{encodes-chars, byte_from_char, IsCharBoundary-before_ascii, IsCharBoundary-after_ascii}
use Rattle.std.specs.Char.{encode_utf8}
use Rattle.std.specs.Prelude.{slice_range}
use Rattle.std.specs.Str.{chars, IsUtf8, IsCharBoundary, encode_utf8_all}
use Rattle.tcl_chars.specs.Characters.{open_paren, close_paren}
use Rattle.tcl_meaning.specs.Names.{from_paren, whole_name, element_name, divided_name}
use Rattle.tcl_frames.specs.Parts.{paren_in}
use Rattle.tcl_frames.proofs.NamesLemmas.{ends_open, closed_name, parted_name, chars_around, utf8_before}

-- none of these bytes is a `(`
abbrev HasNone : List ℕ → Type 0
HasNone [] = Unit {0}
HasNone (b ∷ bs) = (b ≡ open_paren → ⊥) × HasNone bs

none_first : (bs : List ℕ) → HasNone bs → get_or bs 0 0 ≡ open_paren → ⊥
none_first [] h e = absurd (omega (arith, e))
none_first (b ∷ bs) h e = h.0 e

none_behind : (xs ys : List ℕ) → HasNone (xs ++ ys) → HasNone ys
none_behind [] ys h = h
none_behind (x ∷ xs) ys h = none_behind xs ys h.1

none_in_front : (xs ys : List ℕ) → HasNone (xs ++ ys) → HasNone xs
none_in_front [] ys h = tt
none_in_front (x ∷ xs) ys h = (h.0, none_in_front xs ys h.1)

-- ---- where the first one stands

none_before : (bs : List ℕ) → HasNone (take (paren_in bs) bs)
none_before [] = tt
none_before (b ∷ bs) =
    elim (b == open_paren) as (λ c. (b == open_paren) ≡ c → HasNone (take (cond c 0 (suc (paren_in bs))) (b ∷ bs))) [
      | true ↦ λ e. tt
      | false ↦ λ e. (eqb-false _ _ e, none_before bs)
    ] refl

it_is_there : (bs : List ℕ) → paren_in bs < length bs → get_or bs (paren_in bs) 0 ≡ open_paren
it_is_there [] l = absurd (omega (arith, l))
it_is_there (b ∷ bs) l =
    elim (b == open_paren) as (λ c. (b == open_paren) ≡ c → cond c 0 (suc (paren_in bs)) < suc (length bs) → get_or (b ∷ bs) (cond c 0 (suc (paren_in bs))) 0 ≡ open_paren) [
      | true ↦ λ e m. eqb-true b open_paren e
      | false ↦ λ e m. it_is_there bs (omega (arith, m))
    ] refl l

within : (bs : List ℕ) → paren_in bs ≤ length bs
within [] = omega arith
within (b ∷ bs) = elim (b == open_paren) as (λ c. cond c 0 (suc (paren_in bs)) ≤ suc (length bs)) [
  | true ↦ omega arith
  | false ↦ let l = within bs in omega (arith, l)
]

pub paren_there : (bs : List ℕ) (n : ℕ) → n ≡ paren_in bs → (n ≡ length bs → ⊥) → n < length bs
paren_there bs n is other = let l = within bs in omega (arith, l, is, other)

-- ---- by characters

no_paren_in : (cs : List ℕ) → HasNone (encode_utf8_all cs) → from_paren cs ≡ []
unfolding from_paren
no_paren_in [] h = refl
no_paren_in (c ∷ cs) h =
    elim (c == open_paren) as (λ b. (c == open_paren) ≡ b → cond b (c ∷ cs) (from_paren cs) ≡ []) [
      | true ↦ λ e. let same : c ≡ open_paren = eqb-true c open_paren e in absurd (none_first (encode_utf8_all (c ∷ cs)) h (byte_from_char (encode_utf8_all (c ∷ cs)) (encode_utf8_all cs) c refl (omega (arith, same)) ∙ same))
      | false ↦ λ e. no_paren_in cs (none_behind (encode_utf8 c) (encode_utf8_all cs) h)
    ] refl

without_paren : (bs : List ℕ) → IsUtf8 bs → HasNone bs → from_paren (chars bs) ≡ []
without_paren bs u h = no_paren_in (chars bs) (subst HasNone (sym (encodes-chars bs u)) h)

-- a name that has none
pub no_paren : (bs : List ℕ) → IsUtf8 bs → paren_in bs ≡ length bs → from_paren (chars bs) ≡ []
no_paren bs u none = without_paren bs u (subst HasNone (take_all (paren_in bs) bs (omega (arith, none))) (none_before bs))

-- ---- what a name is

cut_at : (bs : List ℕ) (k : ℕ) → k < length bs → bs ≡ take k bs ++ get_or bs k 0 ∷ drop (suc k) bs
cut_at bs k l = sym (take-append-drop k bs) ∙ ap (λ t. take k bs ++ t) (drop-cons bs k 0 l)

cut_last : (bs : List ℕ) → 0 < length bs → bs ≡ take (length bs - 1) bs ++ get_or bs (length bs - 1) 0 ∷ []
cut_last bs some = cut_at bs (length bs - 1) (omega (arith, some)) ∙ ap (λ t. take (length bs - 1) bs ++ get_or bs (length bs - 1) 0 ∷ t) (drop_all (suc (length bs - 1)) bs (omega (arith, some)))

pub nothing_last : (bs : List ℕ) → length bs ≡ 0 → get_or bs (length bs - 1) 0 ≡ close_paren → ⊥
nothing_last [] none e = absurd (omega (arith, e))
nothing_last (b ∷ bs) none e = absurd (omega (arith, none))

module _ (bs : List ℕ) (u : IsUtf8 bs) where
  -- no `)` ends it
  pub open_whole : (get_or bs (length bs - 1) 0 ≡ close_paren → ⊥) → whole_name (chars bs) ≡ divided_name (chars bs)
  open_whole last = ends_open bs u last

  module _ (some : 0 < length bs) (last : get_or bs (length bs - 1) 0 ≡ close_paren) where
    -- it has no `(`
    pub closed_whole : paren_in bs ≡ length bs → whole_name (chars bs) ≡ divided_name (chars bs)
    unfolding chars
    closed_whole none =
        let inside = take (length bs - 1) bs in
        let e : bs ≡ inside ++ close_paren ∷ [] = cut_last bs some ∙ ap (λ c. inside ++ c ∷ []) last in
        let all : HasNone bs = subst HasNone (take_all (paren_in bs) bs (omega (arith, none))) (none_before bs) in
        closed_name (chars bs) (chars inside) (chars_around bs inside [] close_paren u e (omega arith))
        (without_paren inside (utf8_before bs inside [] close_paren u e (omega arith)) (none_in_front inside (close_paren ∷ []) (subst HasNone e all)))

    module _ (n : ℕ) (is : n ≡ paren_in bs) (there : n < length bs) where
      open_there : get_or bs n 0 ≡ open_paren
      open_there = ap (λ k. get_or bs k 0) is ∙ it_is_there bs (subst (λ k. k < length bs) is there)

      -- the `)` stands behind the `(`
      pub room : n + 1 ≤ length bs - 1
      room = by (n == (length bs - 1)) refl
        where
          by : (b : Bool) → (n == (length bs - 1)) ≡ b → n + 1 ≤ length bs - 1
          by true e = let same : open_paren ≡ close_paren = sym open_there ∙ ap (λ k. get_or bs k 0) (eqb-true _ _ e) ∙ last in absurd (omega (arith, same))
          by false e = let other = eqb-false _ _ e in omega (arith, there, other)

      pub before_paren : IsCharBoundary bs n
      before_paren = IsCharBoundary-before_ascii bs n there (omega (arith, open_there))

      pub behind_paren : IsCharBoundary bs (n + 1)
      behind_paren = IsCharBoundary-after_ascii bs n u there (omega (arith, open_there))

      -- its `(` and its `)` part it
      pub parted : element_name (chars (take n bs)) (chars (slice_range bs (n + 1) (length bs - 1))) ≡ divided_name (chars bs)
      unfolding chars
      parted =
          let base = take n bs in
          let rest = drop (suc n) bs in
          let size : length rest ≡ length bs - suc n = length-drop (suc n) bs in
          let more : 0 < length rest = omega (arith, size, room) in
          let index = take (length rest - 1) rest in
          let ended : get_or rest (length rest - 1) 0 ≡ close_paren =
          get_or-drop (suc n) bs (length rest - 1) 0 ∙ (let k : suc n + (length rest - 1) ≡ length bs - 1 = omega (arith, size, room) in ap (λ j. get_or bs j 0) k) ∙ last in
          let behind : rest ≡ index ++ close_paren ∷ [] = cut_last rest more ∙ ap (λ c. index ++ c ∷ []) ended in
          let inside = base ++ open_paren ∷ index in
          let e : bs ≡ inside ++ close_paren ∷ [] =
          cut_at bs n there ∙ ap (λ c. base ++ c ∷ rest) open_there ∙ ap (λ t. base ++ open_paren ∷ t) behind ∙ sym (append_assoc base (open_paren ∷ index) (close_paren ∷ [])) in
          let v = utf8_before bs inside [] close_paren u e (omega arith) in
          let w = utf8_before inside base index open_paren v refl (omega arith) in
          let none : HasNone base = subst (λ k. HasNone (take k bs)) (sym is) (none_before bs) in
          let one : n + 1 ≡ suc n = omega arith in
          let width : length bs - 1 - (n + 1) ≡ length rest - 1 = omega (arith, size) in
          ap (λ t. element_name (chars base) (chars t)) (ap (λ k. take (length bs - 1 - (n + 1)) (drop k bs)) one ∙ ap (λ k. take k rest) width)
          ∙ parted_name (chars bs) (chars inside) (chars base) (chars index) (chars_around bs inside [] close_paren u e (omega arith)) (chars_around inside base index open_paren v refl (omega arith)) (without_paren base w none)
