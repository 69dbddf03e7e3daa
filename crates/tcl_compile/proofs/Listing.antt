-- The texts of the words of a `foreach` or `lmap`, read as its lists.
use Rattle.std.proofs.Common.{◌≡◌, ◌<◌, List, [], ◌∷◌, ◌++◌, length, Some, Ok, Err, refl, sym, ap, ◌∙◌, subst, arith, length-append}
use Rattle.tcl_list.specs.Elements.{elements_of}
use Rattle.tcl_meaning.specs.Shapes.{each_shape, with_list, loop_lists_of, some_names}
use Rattle.tcl_meaning.specs.Tasks.{LoopList}
use Rattle.tcl_pages.specs.Answers.{Answer, ◌>>=◌}
use Rattle.tcl_pages.specs.Dictionaries.{pairs}
use Rattle.tcl_pages.specs.Texts.{Text}
use Rattle.tcl_compile.specs.Eaches.{AreListTexts}
use Rattle.tcl_compile.proofs.Dealing.{AllNamed, names_of}

more_names : (names : List Text) (body m u : Text) (ws : List Text) → AreListTexts names body (m ∷ u ∷ ws) → 0 < length names
more_names names body m u ws h = omega (arith, ap length h.2, length-append h.0 h.1, h.3.1)

pub shape_is : (names : List Text) (body : Text) (ws : List Text) → 0 < length names → AreListTexts names body ws → each_shape ws ≡ Some (record { lists = pairs ws; body = body })
shape_is names body [] some h = absurd h
shape_is names body (t ∷ []) some h = absurd (omega (arith, some, ap length h.0))
shape_is names body (l ∷ t ∷ []) some h = absurd h.4
shape_is names body (l ∷ t ∷ b ∷ []) some h = ap (λ c. Some (record { lists = (l, t) ∷ []; body = c })) h.4.1
shape_is names body (l ∷ t ∷ m ∷ u ∷ ws) some h = ap (with_list l t) (shape_is h.1 body (m ∷ u ∷ ws) (more_names h.1 body m u ws h.4) h.4)

-- ---- the lists that are read

bound : {A B : Type 0} (x : Answer A) (f : A → Answer B) (b : B) → (x >>= f) ≡ Ok b → (a : A) × (x ≡ Ok a) × (f a ≡ Ok b)
bound (Ok a) f b h = (a, refl, h)
bound (Err m) f b h = absurd (cc)

some_named : (empty : Text) (ns : List Text) → 0 < length ns → some_names empty ns ≡ Ok ns
some_named empty [] h = absurd (omega (arith, h))
some_named empty (n ∷ ns) h = refl

-- so no list is without names, of which this is said
pub same_lists : (empty other : Text) (names : List Text) (body : Text) (ws : List Text) → AreListTexts names body ws → loop_lists_of empty (pairs ws) ≡ loop_lists_of other (pairs ws)
same_lists empty other names body [] h = absurd h
same_lists empty other names body (t ∷ []) h = refl
same_lists empty other names body (l ∷ t ∷ ws) h =
    let ns = h.0 in
    let are = h.3 in
    let rest = same_lists empty other h.1 body ws h.4 in
    let read : Answer (List Text) → Answer (List LoopList) → Answer (List LoopList) = λ x more. x >>= λ names. elements_of t >>= λ es. more >>= λ ks. Ok (record { names = names; elements = es } ∷ ks) in
    ap (λ x. x >>= λ ns. read (some_names empty ns) (loop_lists_of empty (pairs ws))) are.0
    ∙ ap (λ x. read x (loop_lists_of empty (pairs ws))) (some_named empty ns are.1 ∙ sym (some_named other ns are.1))
    ∙ ap (λ more. read (some_names other ns) more) rest
    ∙ sym (ap (λ x. x >>= λ ns. read (some_names other ns) (loop_lists_of other (pairs ws))) are.0)

pub lists_named : (empty : Text) (names : List Text) (body : Text) (ws : List Text) → AreListTexts names body ws → (ls : List LoopList) → loop_lists_of empty (pairs ws) ≡ Ok ls → (names_of ls ≡ names) × AllNamed ls
lists_named empty names body [] h ls e = absurd h
lists_named empty names body (t ∷ []) h [] e = (sym h.0, tt)
lists_named empty names body (t ∷ []) h (l ∷ ls) e = absurd (cc)
lists_named empty names body (l ∷ t ∷ ws) h ls e =
    let ns = h.0 in
    let are = h.3 in
    let named : (elements_of t >>= elements ns) ≡ Ok ls = sym (ap (λ x. x >>= λ names. elements_of t >>= elements names) (some_named empty ns are.1)) ∙ sym (ap (λ x. x >>= λ ns. some_names empty ns >>= λ names. elements_of t >>= elements names) are.0) ∙ e in
    let es = bound (elements_of t) (elements ns) ls named in
    let more = bound (loop_lists_of empty (pairs ws)) (λ ks. Ok (record { names = ns; elements = es.0 } ∷ ks)) ls es.2 in
    let rest = lists_named empty h.1 body ws h.4 more.0 more.1 in
    let is : record { names = ns; elements = es.0 } ∷ more.0 ≡ ls = cc in
    subst (λ ks. (names_of ks ≡ names) × AllNamed ks) is (ap (λ ms. ns ++ ms) rest.0 ∙ sym h.2, (are.1, rest.1))
  where
    elements : List Text → List Text → Answer (List LoopList)
    elements ns es = loop_lists_of empty (pairs ws) >>= λ ks. Ok (record { names = ns; elements = es } ∷ ks)
