-- What the parts of a name are.
use Rattle.std.proofs.Common.{◌≡◌, ℕ, ◌+◌, ◌-◌, ◌<◌, true, false, cond, ◌==◌, ◌&&◌, List, [], ◌∷◌, ◌++◌, length, take, drop, get_or, Some, None, Bor, refl, sym, ap, subst, ◌∙◌, arith, append_assoc}
use Rattle.std.proofs.lemmas.Bool.{cond-true, cond-false, eqb-true}
use Rattle.std.proofs.lemmas.Grind.{common_steps}
use Rattle.std.proofs.lemmas.List.{take_at, drop_at, get_or_at, length-append}
use Rattle.std.proofs.lemmas.Str.{chars-append, chars_past_char, chars_from_encodes, encodes-append, encodes-chars, encode_ascii, byte_from_char, IsUtf8-take, IsUtf8-drop, IsCharBoundary-before_ascii, IsCharBoundary-from_take}
use Rattle.std.specs.Str.{chars, IsUtf8, IsCharBoundary, encode_utf8_all}
use Rattle.std.specs.Char.{encode_utf8}
use Rattle.tcl_chars.specs.Characters.{colon, open_paren, close_paren}
use Rattle.tcl_chars.specs.Place.{begins, before, tail}
use Rattle.tcl_meaning.specs.Frames.{whole, element}
use Rattle.tcl_names.specs.Keys.{IsPlain}
use Rattle.tcl_frames.specs.Parts.{plain_name}
use Rattle.tcl_meaning.specs.Substitution.{spelled_element}
use Rattle.tcl_meaning.specs.Names.{Name, after_colons, from_paren, last_part, whole_name, element_name, by_paren, divided_name}

no_nil : (c : ℕ) (cs : List ℕ) → c ∷ cs ≡ [] → ⊥
no_nil c cs e = omega (arith, ap length e)

-- ---- by characters

-- the first `(` behind a text that has none
paren_behind : (base rest : List ℕ) → from_paren base ≡ [] → from_paren (base ++ open_paren ∷ rest) ≡ open_paren ∷ rest
unfolding from_paren
paren_behind [] rest h = refl
paren_behind (c ∷ cs) rest h =
    elim (c == open_paren) as (λ b. cond b (c ∷ cs) (from_paren cs) ≡ [] → cond b (c ∷ (cs ++ open_paren ∷ rest)) (from_paren (cs ++ open_paren ∷ rest)) ≡ open_paren ∷ rest) [
      | true ↦ λ e. absurd (no_nil c cs e)
      | false ↦ λ e. paren_behind cs rest e
    ] h

-- a `)` behind a text that has no `(`
none_behind : (base : List ℕ) → from_paren base ≡ [] → from_paren (base ++ close_paren ∷ []) ≡ []
unfolding from_paren
none_behind [] h = refl
none_behind (c ∷ cs) h =
    elim (c == open_paren) as (λ b. cond b (c ∷ cs) (from_paren cs) ≡ [] → cond b (c ∷ (cs ++ close_paren ∷ [])) (from_paren (cs ++ close_paren ∷ [])) ≡ []) [
      | true ↦ λ e. absurd (no_nil c cs e)
      | false ↦ λ e. none_behind cs e
    ] h

last_behind : (xs : List ℕ) (d : ℕ) → last_part (xs ++ d ∷ []) ≡ d ∷ []
unfolding last_part
last_behind [] d = refl
last_behind (x ∷ []) d = refl
last_behind (x ∷ y ∷ xs) d = last_behind (y ∷ xs) d

before_rest : (xs ys : List ℕ) → before (xs ++ ys) ys ≡ xs
before_rest xs ys = take_at xs ys (length (xs ++ ys) - length ys) (omega (arith, length-append xs ys))

-- a text that does not end in `)`
abbrev IsOpen : List ℕ → Type 0
IsOpen cs = (front : List ℕ) → cs ≡ front ++ close_paren ∷ [] → ⊥

open_past : (c : ℕ) (cs : List ℕ) → IsOpen (c ∷ cs) → IsOpen cs
open_past c cs h front e = h (c ∷ front) (ap (λ t. c ∷ t) e)

last_open : (cs : List ℕ) → IsOpen cs → begins close_paren (last_part cs) ≡ false
unfolding last_part
last_open [] h = refl
last_open (c ∷ []) h = elim (c == close_paren) as (λ b. (c == close_paren) ≡ b → b ≡ false) [ true ↦ λ e. absurd (h [] (ap (λ d. d ∷ []) (eqb-true c close_paren e))) | false ↦ λ e. refl ] refl
last_open (c ∷ d ∷ cs) h = last_open (d ∷ cs) (open_past c (d ∷ cs) h)

by_open : (name cs : List ℕ) → IsOpen cs → by_paren name (from_paren cs) ≡ whole_name name
unfolding from_paren
by_open name [] h = refl
by_open name (c ∷ cs) h =
    elim (c == open_paren) as (λ b. by_paren name (cond b (c ∷ cs) (from_paren cs)) ≡ whole_name name) [
      | true ↦ cond-false _ _ _ (last_open cs (open_past c cs h))
      | false ↦ by_open name cs (open_past c cs h)
    ]

-- ---- what a name is

open_name : (name : List ℕ) → IsOpen name → whole_name name ≡ divided_name name
unfolding divided_name
open_name name h = sym (by_open name name h)

pub closed_name : (name inside : List ℕ) → name ≡ inside ++ close_paren ∷ [] → from_paren inside ≡ [] → whole_name name ≡ divided_name name
unfolding divided_name
closed_name name inside e h = sym (ap (by_paren name) (ap from_paren e ∙ none_behind inside h))

by_index : (name index : List ℕ) → by_paren name (open_paren ∷ (index ++ close_paren ∷ [])) ≡ element_name (before name (open_paren ∷ (index ++ close_paren ∷ []))) index
by_index name index =
    let l = last_behind index close_paren in
    cond-true _ _ _ (ap (begins close_paren) l) ∙ ap (element_name (before name (open_paren ∷ (index ++ close_paren ∷ [])))) (ap (before (index ++ close_paren ∷ [])) l ∙ before_rest index (close_paren ∷ []))

pub parted_name : (name inside base index : List ℕ) → name ≡ inside ++ close_paren ∷ [] → inside ≡ base ++ open_paren ∷ index → from_paren base ≡ [] → element_name base index ≡ divided_name name
unfolding divided_name
parted_name name inside base index e f h =
    let rest = open_paren ∷ (index ++ close_paren ∷ []) in
    let w : name ≡ base ++ rest = e ∙ ap (λ t. t ++ close_paren ∷ []) f ∙ append_assoc base (open_paren ∷ index) (close_paren ∷ []) in
    sym (ap (by_paren name) (ap from_paren w ∙ paren_behind base (index ++ close_paren ∷ []) h) ∙ by_index name index ∙ ap (λ t. element_name t index) (ap (λ n. before n rest) w ∙ before_rest base rest))

spelled_is : (base index : List ℕ) → spelled_element base index ≡ (base ++ open_paren ∷ index) ++ close_paren ∷ []
spelled_is base index = grind (arith, common_steps)

-- the name of an element of a variable whose name has no `(`, where neither a colon leads that one nor `)` ends it
pub element_plain : (base index : List ℕ) → from_paren base ≡ [] → divided_name base ≡ plain_name base → divided_name (spelled_element base index) ≡ record (plain_name base) { part = element index }
unfolding divided_name
element_plain base index none plain =
    sym (parted_name (spelled_element base index) (base ++ open_paren ∷ index) base index (spelled_is base index) refl none)
    ∙ ap (λ (n : Name). record n { part = element index }) (sym (ap (by_paren base) none) ∙ plain)

-- ---- by bytes

-- a text is cut before an ASCII character
pub utf8_before : (bs xs ys : List ℕ) (c : ℕ) → IsUtf8 bs → bs ≡ xs ++ c ∷ ys → c < 128 → IsUtf8 xs
utf8_before bs xs ys c u e low =
    let at : get_or bs (length xs) 0 ≡ c = ap (λ t. get_or t (length xs) 0) e ∙ get_or_at xs c ys 0 (length xs) refl in
    let size : length bs ≡ length xs + length (c ∷ ys) = ap length e ∙ length-append xs (c ∷ ys) in
    let place : IsCharBoundary bs (length xs) = IsCharBoundary-before_ascii bs (length xs) (omega (arith, size)) (omega (arith, at, low)) in
    subst IsUtf8 (ap (take (length xs)) e ∙ take_at xs (c ∷ ys) (length xs) refl) (IsUtf8-take bs (length xs) u place)

pub chars_around : (bs xs ys : List ℕ) (c : ℕ) → IsUtf8 bs → bs ≡ xs ++ c ∷ ys → c < 128 → chars bs ≡ chars xs ++ c ∷ chars ys
chars_around bs xs ys c u e low =
    let v = utf8_before bs xs ys c u e low in
    let w : IsUtf8 (c ∷ ys) = subst IsUtf8 (ap (drop (length xs)) e ∙ drop_at xs (c ∷ ys) (length xs) refl) (IsUtf8-drop bs (length xs) u (IsCharBoundary-from_take bs (length xs) u (omega (arith, ap length e, length-append xs (c ∷ ys))) (subst IsUtf8 (sym (ap (take (length xs)) e ∙ take_at xs (c ∷ ys) (length xs) refl)) v))) in
    ap chars e ∙ chars-append xs (c ∷ ys) v ∙ ap (λ t. chars xs ++ t) (chars_past_char (c ∷ ys) ys c w (sym (ap (λ t. t ++ ys) (encode_ascii c low))))

-- ---- what a name is that no colon leads and no `)` ends

pub no_colon : (bs : List ℕ) → IsUtf8 bs → (get_or bs 0 0 ≡ colon → ⊥) → begins colon (chars bs) ≡ false
no_colon bs u h = by (chars bs) (encodes-chars bs u)
  where
    by : (cs : List ℕ) → encode_utf8_all cs ≡ bs → begins colon cs ≡ false
    by [] e = refl
    by (c ∷ cs) e = elim (c == colon) as (λ b. (c == colon) ≡ b → b ≡ false) [
      | true ↦ λ t. let same : c ≡ colon = eqb-true c colon t in absurd (h (byte_from_char bs (encode_utf8_all cs) c (sym e) (omega (arith, same)) ∙ same))
      | false ↦ λ t. refl
    ] refl

led_by_none : (cs : List ℕ) → begins colon cs ≡ false → whole_name cs ≡ plain_name cs
led_by_none cs e = ap (λ b. record { global = b && begins colon (tail cs); base = cond (b && begins colon (tail cs)) (after_colons cs) cs; part = whole }) e

-- the same of a name that is known by its key
pub keyed_is : (name : List ℕ) → IsPlain name → divided_name name ≡ plain_name name
keyed_is name h = sym (open_name name h.last) ∙ led_by_none name h.first

-- the same of a name by its bytes
pub ends_open : (bs : List ℕ) → IsUtf8 bs → (get_or bs (length bs - 1) 0 ≡ close_paren → ⊥) → whole_name (chars bs) ≡ divided_name (chars bs)
unfolding encode_utf8
ends_open bs u last = open_name (chars bs) (λ front e. last (ended (encode_utf8_all front) (sym (encodes-chars bs u) ∙ ap encode_utf8_all e ∙ encodes-append front (close_paren ∷ []))))
  where
    ended : (front : List ℕ) → bs ≡ front ++ close_paren ∷ [] → get_or bs (length bs - 1) 0 ≡ close_paren
    ended front e =
        let size : length bs - 1 ≡ length front = omega (arith, ap length e, length-append front (close_paren ∷ [])) in
        ap (λ k. get_or bs k 0) size ∙ ap (λ t. get_or t (length front) 0) e ∙ get_or_at front close_paren [] 0 (length front) refl

pub plain_is : (bs : List ℕ) → IsUtf8 bs → (get_or bs 0 0 ≡ colon → ⊥) → (get_or bs (length bs - 1) 0 ≡ close_paren → ⊥) → divided_name (chars bs) ≡ plain_name (chars bs)
plain_is bs u first last = sym (ends_open bs u last) ∙ led_by_none (chars bs) (no_colon bs u first)
