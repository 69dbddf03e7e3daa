-- The elements that turns take, one after another.
use Rattle.std.proofs.Common.{◌≡◌, ℕ, zero, suc, ◌+◌, ◌-◌, ◌<◌, true, false, List, [], ◌∷◌, ◌++◌, drop, get_or, refl, sym, ap, ◌∙◌, append-nil, append_assoc, arith, ◌≤◌, not, ◌||◌, ◌==◌, Ok, Err, length}
use Rattle.std.specs.Prelude.{cond}
use Rattle.std.proofs.lemmas.Bool.{eqb-true}
use Rattle.std.proofs.Math.Dec.{eqb-suc-zero}
use Rattle.tcl_arguments.specs.WordAt.{word}
use Rattle.tcl_chars.specs.Texts.{literal}
use Rattle.tcl_code.specs.Dealing.{dealt, dealt_in, dealt_of, dealt_once, firsts, longest}
use Rattle.tcl_each.specs.LoopLists.{counts_one}
use Rattle.tcl_list.specs.Elements.{elements_of}
use Rattle.tcl_meaning.specs.Control.{behind_turns, has_more}
use Rattle.tcl_meaning.specs.Shapes.{some_names}
use Rattle.tcl_meaning.specs.Tasks as tasks
use Rattle.tcl_pages.specs.Answers.{Answer, ◌>>=◌}
use Rattle.tcl_pages.specs.Texts.{Text}

-- ---- of one list

firsts_next : (es : List Text) (at k : ℕ) → firsts (suc k) (drop at es) ≡ get_or es at [] ∷ firsts k (drop (suc at) es)
firsts_next [] zero k = refl
firsts_next [] (suc at) k = refl
firsts_next (e ∷ es) zero k = refl
firsts_next (e ∷ es) (suc at) k = firsts_next es at k

module _ (es : List Text) (n gone place : ℕ) (value : Text) (old new whole : List Text) where
  pub element_dealt : place < n → value ≡ get_or es (gone + place) [] → new ≡ old ++ value ∷ [] → old ++ firsts (n - place) (drop (gone + place) es) ≡ whole → new ++ firsts (n - (place + 1)) (drop (gone + (place + 1)) es) ≡ whole
  element_dealt lt is more h =
      let left : n - place ≡ suc (n - (place + 1)) = omega (arith, lt) in
      let at : suc (gone + place) ≡ gone + (place + 1) = omega arith in
      let first : firsts (n - place) (drop (gone + place) es) ≡ value ∷ firsts (n - (place + 1)) (drop (gone + (place + 1)) es) =
      ap (λ k. firsts k (drop (gone + place) es)) left
      ∙ firsts_next es (gone + place) (n - (place + 1))
      ∙ ap (λ v. v ∷ firsts (n - (place + 1)) (drop (suc (gone + place)) es)) (sym is)
      ∙ ap (λ k. value ∷ firsts (n - (place + 1)) (drop k es)) at in
      ap (λ l. l ++ firsts (n - (place + 1)) (drop (gone + (place + 1)) es)) more
      ∙ append_assoc old (value ∷ []) (firsts (n - (place + 1)) (drop (gone + (place + 1)) es))
      ∙ ap (λ l. old ++ l) (sym first) ∙ h

-- ---- turn by turn

none_more : (n : ℕ) (ls : List tasks.LoopList) → has_more ls ≡ false → dealt_in n ls ≡ []
none_more zero ls h = refl
none_more (suc n) ls h = ap (λ b. cond b (dealt_once ls ++ dealt_in n (behind_turns ls)) []) h

module _ (most turn : ℕ) (ls : List tasks.LoopList) (old new whole : List Text) (so_far : old ++ dealt_in (most - turn) ls ≡ whole) where
  pub turn_dealt : (behind : List tasks.LoopList) → turn < most → has_more ls ≡ true → new ≡ old ++ dealt_once ls → behind ≡ behind_turns ls → new ++ dealt_in (most - (turn + 1)) behind ≡ whole
  turn_dealt behind lt has more moved =
      let n = most - (turn + 1) in
      let left : most - turn ≡ suc n = omega (arith, lt) in
      let now : dealt_in (most - turn) ls ≡ dealt_once ls ++ dealt_in n (behind_turns ls) = ap (λ k. dealt_in k ls) left ∙ ap (λ b. cond b (dealt_once ls ++ dealt_in n (behind_turns ls)) []) has in
      ap (λ ks. new ++ dealt_in n ks) moved
      ∙ ap (λ ts. ts ++ dealt_in n (behind_turns ls)) more
      ∙ append_assoc old (dealt_once ls) (dealt_in n (behind_turns ls))
      ∙ ap (λ ts. old ++ ts) (sym now) ∙ so_far

  pub turns_over : has_more ls ≡ false → old ≡ whole
  turns_over h = sym (append-nil old) ∙ ap (λ ts. old ++ ts) (sym (none_more (most - turn) ls h)) ∙ so_far

-- ---- one list, for one name

lone_more : (name : Text) (m : ℕ) (es : List Text) → length es ≤ m → dealt_in m (record { names = name ∷ []; elements = es } ∷ []) ≡ es
lone_more name zero [] h = refl
lone_more name zero (e ∷ es) h = absurd (omega (arith, h))
lone_more name (suc m) [] h = refl
lone_more name (suc m) (e ∷ es) h =
    ap (λ b. cond (not b || false) (e ∷ dealt_in m (record { names = name ∷ []; elements = es } ∷ [])) []) (eqb-suc-zero (length es))
    ∙ ap (λ ts. e ∷ ts) (lone_more name m es (omega (arith, h)))

answered : (r : Answer (List Text)) (f : List Text → List Text) → ((ts : List Text) → f ts ≡ ts) → (r >>= λ ts. Ok (f ts)) ≡ r
answered (Ok ts) f h = ap Ok (h ts)
answered (Err m) f h = refl

lone_dealt : (a b c : Text) (names : List Text) → length names ≡ 1 → elements_of a ≡ Ok names → dealt_of (a ∷ b ∷ c ∷ []) ≡ elements_of b
lone_dealt a b c [] one h = absurd (omega (arith, one))
lone_dealt a b c (n ∷ []) one h =
    ap (λ x. dealt_by x (elements_of b)) h
    ∙ by_elements (elements_of b)
    ∙ answered (elements_of b) (λ es. dealt (record { names = n ∷ []; elements = es } ∷ [])) (λ es. lone_more n (longest (record { names = n ∷ []; elements = es } ∷ [])) es (omega arith))
  where
    dealt_by : Answer (List Text) → Answer (List Text) → Answer (List Text)
    dealt_by x y = (x >>= λ ns. some_names (literal "foreach varlist is empty") ns >>= λ names. y >>= λ es. Ok (record { names = names; elements = es } ∷ [])) >>= λ ls. Ok (dealt ls)

    by_elements : (y : Answer (List Text)) → dealt_by (Ok (n ∷ [])) y ≡ (y >>= λ es. Ok (dealt (record { names = n ∷ []; elements = es } ∷ [])))
    by_elements (Ok es) = refl
    by_elements (Err m) = refl
lone_dealt a b c (n ∷ m ∷ ns) one h = absurd (omega (arith, one))

counted_one : (a b c : Text) (r : Answer (List Text)) → elements_of a ≡ r → (r >>= λ ts. Ok (length ts == 1)) ≡ Ok true → dealt_of (a ∷ b ∷ c ∷ []) ≡ elements_of b
counted_one a b c (Ok ns) e h = lone_dealt a b c ns (eqb-true (length ns) 1 (cc)) e
counted_one a b c (Err m) e h = absurd (cc)

pub one_dealt : (ws : List Text) → length ws ≡ 3 → counts_one (word ws 0) ≡ Ok true → dealt_of ws ≡ elements_of (word ws 1)
one_dealt [] h k = absurd (omega arith)
one_dealt (a ∷ []) h k = absurd (omega arith)
one_dealt (a ∷ b ∷ []) h k = absurd (omega arith)
one_dealt (a ∷ b ∷ c ∷ []) h k = counted_one a b c (elements_of a) refl k
one_dealt (a ∷ b ∷ c ∷ d ∷ ws) h k = absurd (omega arith)
