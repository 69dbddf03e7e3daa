-- A name is divided at its first parenthesis, if its last character is the closing one.
use Rattle.std.proofs.Common.{◌≡◌, ℕ, zero, suc, true, false, ◌==◌, List, [], ◌∷◌, ◌++◌, refl, ap, ◌∙◌, arith, inl, inr}
use Rattle.std.specs.Prelude.{Contains}
use Rattle.std.proofs.lemmas.Bool.{cases_Bool, cond-true, cond-false, eqb-true, eqb-false, ne_eqb}
use Rattle.tcl_chars.specs.Characters.{open_paren, close_paren}
use Rattle.tcl_chars.specs.Place.{begins, before}
use Rattle.tcl_chars.proofs.SpelledIndices.{before_front}
use Rattle.tcl_meaning.specs.Names.{from_paren, last_part, whole_name, element_name, by_paren, divided_name}
use Rattle.tcl_meaning.specs.Laws.{IsElement}

abbrev Lacks : List ℕ → ℕ → Type 0
Lacks cs c = Contains cs c → ⊥

lacks_nil : (c : ℕ) → Lacks [] c
lacks_nil c (k, l, at) = absurd (omega arith)

lacks_more : (c d : ℕ) (cs : List ℕ) → (d == c) ≡ false → Lacks cs c → Lacks (d ∷ cs) c
lacks_more c d cs e h (zero, l, at) = eqb-false d c e at
lacks_more c d cs e h (suc k, l, at) = h (k, omega arith, at)

lacks_tail : (c d : ℕ) (cs : List ℕ) → Lacks (d ∷ cs) c → Lacks cs c
lacks_tail c d cs h (k, l, at) = h (suc k, omega arith, at)

lacks_head : (c d : ℕ) (cs : List ℕ) → Lacks (d ∷ cs) c → (d == c) ≡ false
lacks_head c d cs h = ne_eqb d c (λ e. h (zero, omega arith, e))

-- ---- the first parenthesis

from_first : (base rest : List ℕ) → Lacks base open_paren → from_paren (base ++ open_paren ∷ rest) ≡ open_paren ∷ rest
unfolding from_paren
from_first [] rest h = refl
from_first (c ∷ base) rest h = cond-false _ _ _ (lacks_head open_paren c base h) ∙ from_first base rest (lacks_tail open_paren c base h)

-- what is in front of what was found
record Found (cs rest : List ℕ) : Type 0 where
  front : List ℕ
  lacks : Lacks front open_paren
  joined : cs ≡ front ++ rest
  here : (c : ℕ) (index : List ℕ) → rest ≡ c ∷ index → c ≡ open_paren

found : (cs : List ℕ) → Found cs (from_paren cs)
unfolding from_paren
found [] = record { front = []; lacks = lacks_nil open_paren; joined = refl; here = λ c index e. absurd cc }
found (c ∷ cs) = elim (cases_Bool (c == open_paren)) [
  | inl e ↦ rw e (record { front = []; lacks = lacks_nil open_paren; joined = refl; here = λ d index q. cc (q, eqb-true c open_paren e) })
  | inr e ↦ let f = found cs in rw e (record { front = c ∷ f.front; lacks = lacks_more open_paren c f.front e f.lacks; joined = ap (λ l. c ∷ l) f.joined; here = f.here })
]

-- ---- the last character

last_behind : (front : List ℕ) (c : ℕ) → last_part (front ++ c ∷ []) ≡ c ∷ []
unfolding last_part
last_behind [] c = refl
last_behind (d ∷ []) c = refl
last_behind (d ∷ e ∷ front) c = last_behind (e ∷ front) c

record Ends (cs : List ℕ) (c : ℕ) : Type 0 where
  front : List ℕ
  joined : cs ≡ front ++ c ∷ []
  last : last_part cs ≡ c ∷ []

ends_with : (cs : List ℕ) (c : ℕ) → begins c (last_part cs) ≡ true → Ends cs c
unfolding last_part
ends_with [] c h = absurd cc
ends_with (d ∷ []) c h = let e = eqb-true d c h in record { front = []; joined = ap (λ x. x ∷ []) e; last = ap (λ x. x ∷ []) e }
ends_with (d ∷ e ∷ cs) c h = let k = ends_with (e ∷ cs) c h in record { front = d ∷ k.front; joined = ap (λ l. d ∷ l) k.joined; last = k.last }

-- ---- names

pub element_divides : (name base index : List ℕ) → IsElement name base index → divided_name name ≡ element_name base index
unfolding divided_name
element_divides name base index e =
    let rest = index ++ close_paren ∷ [] in
    let last = last_behind index close_paren in
    let closes : begins close_paren (last_part rest) ≡ true = ap (begins close_paren) last in
    ap (λ n. by_paren n (from_paren n)) e.joined
    ∙ ap (by_paren (base ++ open_paren ∷ rest)) (from_first base rest e.no_paren)
    ∙ cond-true _ _ _ closes
    ∙ ap (λ b. element_name b (before rest (last_part rest))) (before_front base (open_paren ∷ rest))
    ∙ ap (element_name base) (ap (before rest) last ∙ before_front index (close_paren ∷ []))

undivided : (name : List ℕ) → ((base index : List ℕ) → IsElement name base index → ⊥) → (rest : List ℕ) → Found name rest → by_paren name rest ≡ whole_name name
undivided name none [] f = refl
undivided name none (c ∷ index) f = elim (cases_Bool (begins close_paren (last_part index))) [
  | inl e ↦ let k = ends_with index close_paren e in absurd (none f.front k.front (record { no_paren = f.lacks; joined = f.joined ∙ ap (λ l. f.front ++ l) (ap (λ d. d ∷ index) (f.here c index refl) ∙ ap (λ l. open_paren ∷ l) k.joined) }))
  | inr e ↦ cond-false _ _ _ e
]

pub other_is_whole : (name : List ℕ) → ((base index : List ℕ) → IsElement name base index → ⊥) → divided_name name ≡ whole_name name
unfolding divided_name
other_is_whole name none = undivided name none (from_paren name) (found name)
