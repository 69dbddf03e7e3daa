-- The elements that the turns of a `foreach` take, and what is left of them from turn to turn.
use Rattle.std.proofs.Common.{◌≡◌, ℕ, zero, suc, ◌+◌, ◌<◌, ◌≤◌, Bool, true, false, not, ◌||◌, ◌==◌, List, [], ◌∷◌, ◌++◌, length, take, drop, refl, sym, ap, ◌∙◌, subst, arith, length-append, true≢false}
use Rattle.std.specs.Prelude.{cond}
use Rattle.tcl_meaning.specs.Control.{has_more, behind_turns}
use Rattle.tcl_meaning.specs.Tasks.{LoopList}
use Rattle.tcl_pages.specs.Texts.{Text}
use Rattle.tcl_code.specs.Dealing.{firsts, dealt_once, dealt_in, longest}

-- all names of the lists
abbrev pub names_of : List LoopList → List Text
names_of [] = []
names_of (l ∷ ls) = l.names ++ names_of ls

-- each list has a name
abbrev pub AllNamed : List LoopList → Type 0
AllNamed [] = Unit {0}
AllNamed (l ∷ ls) = (0 < length l.names) × AllNamed ls

abbrev pub some_left : List Text → Bool
some_left [] = false
some_left (t ∷ ts) = true

-- In so many turns at most: where an element of the lists is left, one of these texts is left, and they begin with what the next turn
-- takes; and so on behind it.
abbrev pub Left : ℕ → List Text → List LoopList → List Text → Type 0
Left zero names ls es = Unit {0}
Left (suc n) names ls es = (has_more ls ≡ some_left es) × ((has_more ls ≡ true) → (names_of ls ≡ names) × (firsts (length names) es ≡ dealt_once ls) × Left n names (behind_turns ls) (drop (length names) es))

-- ---- from the front of a list

pub firsts_long : (n : ℕ) (es : List Text) → length (firsts n es) ≡ n
firsts_long zero es = refl
firsts_long (suc n) [] = ap suc (firsts_long n [])
firsts_long (suc n) (e ∷ es) = ap suc (firsts_long n es)

firsts_front : (n : ℕ) (es more : List Text) → n ≡ length es → firsts n (es ++ more) ≡ es
firsts_front zero [] more h = refl
firsts_front zero (e ∷ es) more h = absurd (omega (arith, h))
firsts_front (suc n) [] more h = absurd (omega (arith, h))
firsts_front (suc n) (e ∷ es) more h = ap (λ l. e ∷ l) (firsts_front n es more (omega (arith, h)))

drop_front : (n : ℕ) (es more : List Text) → n ≡ length es → drop n (es ++ more) ≡ more
drop_front zero [] more h = refl
drop_front zero (e ∷ es) more h = absurd (omega (arith, h))
drop_front (suc n) [] more h = absurd (omega (arith, h))
drop_front (suc n) (e ∷ es) more h = drop_front n es more (omega (arith, h))

none_behind : (m : ℕ) → drop {A = Text} m [] ≡ []
none_behind zero = refl
none_behind (suc m) = refl

pub drop_both : (n m k : ℕ) (es : List Text) → k ≡ n + m → drop k es ≡ drop m (drop n es)
drop_both zero m k es sum =
    let e : k ≡ m = omega (arith, sum) in
    ap (λ j. drop j es) e
drop_both (suc n) m zero es sum = absurd (omega (arith, sum))
drop_both (suc n) m (suc k) [] sum = sym (none_behind m)
drop_both (suc n) m (suc k) (e ∷ es) sum = drop_both n m k es (omega (arith, sum))

-- of two parts
pub firsts_parts : (n m k : ℕ) (es us vs : List Text) → k ≡ n + m → length us ≡ n → firsts k es ≡ us ++ vs → (firsts n es ≡ us) × (firsts m (drop n es) ≡ vs)
firsts_parts zero m k es [] vs sum l h =
    let e : m ≡ k = omega (arith, sum) in
    (refl, ap (λ j. firsts j es) e ∙ h)
firsts_parts zero m k es (u ∷ us) vs sum l h = absurd (omega (arith, l))
firsts_parts (suc n) m k es [] vs sum l h = absurd (omega (arith, l))
firsts_parts (suc n) m zero es (u ∷ us) vs sum l h = absurd (omega (arith, sum))
firsts_parts (suc n) m (suc k) [] (u ∷ us) vs sum l h =
    let x = firsts_parts n m k [] us vs (omega (arith, sum)) (omega (arith, l)) (ap (λ l. drop 1 l) h) in
    (ap (λ l. take 1 l ++ firsts n []) h ∙ ap (λ l. u ∷ l) x.0, subst (λ (l : List Text). firsts m l ≡ vs) (none n) x.1)
  where
    none : (n : ℕ) → drop {A = Text} n [] ≡ drop (suc n) []
    none zero = refl
    none (suc n) = refl
firsts_parts (suc n) m (suc k) (e ∷ es) (u ∷ us) vs sum l h =
    let x = firsts_parts n m k es us vs (omega (arith, sum)) (omega (arith, l)) (ap (λ l. drop 1 l) h) in
    (ap (λ l. take 1 l ++ firsts n es) h ∙ ap (λ l. u ∷ l) x.0, x.1)

-- ---- lists

pub once_long : (ls : List LoopList) → length (dealt_once ls) ≡ length (names_of ls)
once_long [] = refl
once_long (l ∷ ls) = omega (arith, length-append (firsts (length l.names) l.elements) (dealt_once ls), firsts_long (length l.names) l.elements, length-append l.names (names_of ls), once_long ls)

names_behind : (ls : List LoopList) → names_of (behind_turns ls) ≡ names_of ls
names_behind [] = refl
names_behind (l ∷ ls) = ap (λ ns. l.names ++ ns) (names_behind ls)

named_behind : (ls : List LoopList) → AllNamed ls → AllNamed (behind_turns ls)
named_behind [] h = tt
named_behind (l ∷ ls) h = (h.0, named_behind ls h.1)

drop_less : (n m : ℕ) (es : List Text) → 0 < n → length es ≤ suc m → length (drop n es) ≤ m
drop_less zero m es some h = absurd (omega arith)
drop_less (suc n) m [] some h = omega arith
drop_less (suc n) m (e ∷ es) some h = dropped n es (omega (arith, h))
  where
    dropped : (n : ℕ) (es : List Text) → length es ≤ m → length (drop n es) ≤ m
    dropped zero es h = h
    dropped (suc n) [] h = omega arith
    dropped (suc n) (e ∷ es) h = dropped n es (omega (arith, h))

less_behind : (m : ℕ) (ls : List LoopList) → AllNamed ls → longest ls ≤ suc m → longest (behind_turns ls) ≤ m
less_behind m [] named h = omega arith
less_behind m (l ∷ ls) named h =
    let a : length l.elements ≤ suc m = omega (arith, h) in
    let b : longest ls ≤ suc m = omega (arith, h) in
    let x = drop_less (length l.names) m l.elements named.0 a in
    let y = less_behind m ls named.1 b in
    omega (arith, x, y)

none_left : (ls : List LoopList) → longest ls ≤ 0 → has_more ls ≡ false
none_left [] h = refl
none_left (l ∷ ls) h = go l.elements (omega (arith, h)) ∙ none_left ls (omega (arith, h))
  where
    go : (es : List Text) → length es ≤ 0 → (not (length es == 0) || has_more ls) ≡ has_more ls
    go [] h = refl
    go (e ∷ es) h = absurd (omega (arith, h))

left_of : (es more : List Text) → 0 < length es → some_left (es ++ more) ≡ true
left_of [] more h = absurd (omega (arith, h))
left_of (e ∷ es) more h = refl

names_some : (ls : List LoopList) → AllNamed ls → has_more ls ≡ true → 0 < length (names_of ls)
names_some [] named h = absurd (cc)
names_some (l ∷ ls) named h = omega (arith, named.0, length-append l.names (names_of ls))

-- What is dealt is left, turn by turn.
pub left_dealt : (n m : ℕ) (names : List Text) (ls : List LoopList) → names_of ls ≡ names → AllNamed ls → longest ls ≤ m → Left n names ls (dealt_in m ls)
left_dealt zero m names ls e named h = tt
left_dealt (suc n) zero names ls e named h = (none_left ls h, λ more. absurd (true≢false (sym more ∙ none_left ls h)))
left_dealt (suc n) (suc m) names ls e named h = go (left_dealt n m names (behind_turns ls) (names_behind ls ∙ e) (named_behind ls named) (less_behind m ls named h)) (has_more ls) refl
  where
    taken : List Text
    taken = dealt_once ls

    more : List Text
    more = dealt_in m (behind_turns ls)

    go : Left n names (behind_turns ls) more → (b : Bool) → has_more ls ≡ b → Left (suc n) names ls (dealt_in (suc m) ls)
    go rest false k = subst (Left (suc n) names ls) (sym (ap (λ b. cond b (taken ++ more) []) k)) (k, λ j. absurd (true≢false (sym j ∙ k)))
    go rest true k =
        let long : length names ≡ length taken = ap length (sym e) ∙ sym (once_long ls) in
        subst (Left (suc n) names ls) (sym (ap (λ b. cond b (taken ++ more) []) k)) (
          k ∙ sym (left_of taken more (omega (arith, once_long ls, names_some ls named k))),
          λ j. (e, firsts_front (length names) taken more long, subst (Left n names (behind_turns ls)) (sym (drop_front (length names) taken more long)) rest),
        )
