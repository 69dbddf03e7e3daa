-- Words read as lists with their names.
use Rattle.std.proofs.Common.{◌≡◌, ◌≢◌, ℕ, zero, suc, ◌+◌, ◌*◌, ◌/◌, ◌<◌, ◌≤◌, List, [], ◌∷◌, ◌++◌, length, length-drop, drop, get_or, Ok, Err, refl, sym, ap, ◌∙◌, append_assoc, arith}
use Rattle.std.proofs.lemmas.List.{append-nil, drop_more}
use Rattle.tcl_chars.specs.Texts.{literal}
use Rattle.tcl_steps.proofs.WordLemmas.{no_pairs}
use Rattle.tcl_arguments.specs.WordAt.{word}
use Rattle.tcl_pages.specs.Dictionaries.{pairs}
use Rattle.tcl_each.specs.LoopLists.{loop_list_read, in_front}
use Rattle.tcl_list.specs.Elements.{elements_of}
use Rattle.tcl_meaning.specs.Control.{two_names}
use Rattle.tcl_meaning.specs.Shapes.{some_names}
use Rattle.tcl_meaning.specs.Shapes as shapes
use Rattle.tcl_meaning.specs.Tasks.{LoopList}
use Rattle.tcl_pages.specs.Answers.{Answer, ◌>>=◌}
use Rattle.tcl_pages.specs.Dictionaries.{Pairs, keys_of, values_of}
use Rattle.tcl_pages.specs.DictPages.{flat}
use Rattle.tcl_pages.specs.Texts.{Text}
use Rattle.tcl_steps.specs.Views.{loop_list_of, loop_lists_of}
use Rattle.tcl_steps.specs.declared.step.LoopList.{LoopList as Held}

-- ---- names

pub none_named : (empty said : Text) (ns : List Text) → length ns ≡ 0 → said ≡ empty → some_names empty ns ≡ Err said
none_named empty said [] h e = ap Err (sym e)
none_named empty said (n ∷ ns) h e = absurd (omega arith)

pub some_named : (empty : Text) (ns : List Text) → length ns ≢ 0 → some_names empty ns ≡ Ok ns
some_named empty [] h = absurd (h refl)
some_named empty (n ∷ ns) h = refl

pub not_two : (said : Text) (ns : List Text) → length ns ≢ 2 → said ≡ literal "must have exactly two variable names" → two_names ns ≡ Err said
not_two said [] h e = ap Err (sym e)
not_two said (a ∷ []) h e = ap Err (sym e)
not_two said (a ∷ b ∷ []) h e = absurd (h refl)
not_two said (a ∷ b ∷ c ∷ ns) h e = ap Err (sym e)

pub are_two : (ns : List Text) → length ns ≡ 2 → two_names ns ≡ Ok ns
are_two [] h = absurd (omega arith)
are_two (a ∷ []) h = absurd (omega arith)
are_two (a ∷ b ∷ []) h = refl
are_two (a ∷ b ∷ c ∷ ns) h = absurd (omega arith)

-- ---- pairs of words

two_words : (ws : List Text) (i : ℕ) → i + 1 < length ws → drop i ws ≡ word ws i ∷ word ws (i + 1) ∷ drop (i + 1 + 1) ws
two_words ws i h = drop_more ws i [] (omega arith) ∙ ap (λ (vs : List Text). word ws i ∷ vs) (drop_more ws (i + 1) [] h)

pair_there : (ws : List Text) (n : ℕ) → n < length ws / 2 → pairs (drop (2 * n) ws) ≡ (word ws (2 * n), word ws (2 * n + 1)) ∷ pairs (drop (2 * (n + 1)) ws)
pair_there ws n h =
    let within : 2 * n + 1 < length ws = omega (arith, h) in
    let next : 2 * n + 1 + 1 ≡ 2 * (n + 1) = omega arith in
    ap pairs (two_words ws (2 * n) within) ∙ ap (λ (k : ℕ). (word ws (2 * n), word ws (2 * n + 1)) ∷ pairs (drop k ws)) next

no_pair_there : (ws : List Text) (n : ℕ) → length ws / 2 ≤ n → pairs (drop (2 * n) ws) ≡ []
no_pair_there ws n h = no_pairs (drop (2 * n) ws) (omega (arith, h, length-drop (2 * n) ws))

-- ---- lists one behind the other

named_read : (names list : Answer (List Text)) (more : Answer (List LoopList))
    → (names >>= λ ns. list >>= λ es. more >>= λ ls. Ok (record { names = ns; elements = es } ∷ ls))
    ≡ ((names >>= λ ns. list >>= λ es. Ok (record { names = ns; elements = es })) >>= λ l. more >>= λ ls. Ok (l ∷ ls))
named_read (Ok ns) (Ok es) more = refl
named_read (Ok ns) (Err m) more = refl
named_read (Err m) list more = refl

list_read : (empty : Text) (names list : Answer (List Text)) (more : Answer (List LoopList))
    → (names >>= λ ns. some_names empty ns >>= λ some. list >>= λ es. more >>= λ ls. Ok (record { names = some; elements = es } ∷ ls))
    ≡ ((names >>= λ ns. some_names empty ns >>= λ some. list >>= λ es. Ok (record { names = some; elements = es })) >>= λ l. more >>= λ ls. Ok (l ∷ ls))
list_read empty (Ok ns) list more = named_read (some_names empty ns) list more
list_read empty (Err m) list more = refl

first_read : (empty : Text) (ws : List Text) (n : ℕ) → n < length ws / 2
    → shapes.loop_lists_of empty (pairs (drop (2 * n) ws)) ≡ (loop_list_read empty (word ws (2 * n)) (word ws (2 * n + 1)) >>= λ l. shapes.loop_lists_of empty (pairs (drop (2 * (n + 1)) ws)) >>= λ ls. Ok (l ∷ ls))
first_read empty ws n h =
    ap (shapes.loop_lists_of empty) (pair_there ws n h)
    ∙ list_read empty (elements_of (word ws (2 * n))) (elements_of (word ws (2 * n + 1))) (shapes.loop_lists_of empty (pairs (drop (2 * (n + 1)) ws)))

front_more : (ls : List LoopList) (l : LoopList) (more : Answer (List LoopList)) → in_front ls (more >>= λ others. Ok (l ∷ others)) ≡ in_front (ls ++ l ∷ []) more
front_more ls l (Ok others) = ap Ok (sym (append_assoc ls (l ∷ []) others))
front_more ls l (Err m) = refl

held_more : (ls : List Held) (l : Held) → loop_lists_of (ls ++ l ∷ []) ≡ loop_lists_of ls ++ loop_list_of l ∷ []
held_more [] l = refl
held_more (x ∷ ls) l = ap (λ (z : List LoopList). loop_list_of x ∷ z) (held_more ls l)

-- what is read of the words from a pair on
abbrev pub read_from : Text → List Text → ℕ → Answer (List LoopList)
read_from empty ws n = shapes.loop_lists_of empty (pairs (drop (2 * n) ws))

module _ (empty : Text) (ws now : List Text) (n : ℕ) (ls : List Held) (there : n < length ws / 2) (same : now ≡ ws) (so_far : read_from empty ws 0 ≡ in_front (loop_lists_of ls) (read_from empty ws n)) where
  this : Answer LoopList → Answer (List LoopList)
  this list = in_front (loop_lists_of ls) (list >>= λ l. read_from empty ws (n + 1) >>= λ others. Ok (l ∷ others))

  first : read_from empty ws 0 ≡ this (loop_list_read empty (word now (2 * n)) (word now (2 * n + 1)))
  unfolding this
  first = so_far ∙ ap (in_front (loop_lists_of ls)) (first_read empty ws n there) ∙ ap (λ (vs : List Text). this (loop_list_read empty (word vs (2 * n)) (word vs (2 * n + 1)))) (sym same)

  pub list_pushed : (l : Held) (new : List Held) → loop_list_read empty (word now (2 * n)) (word now (2 * n + 1)) ≡ Ok (loop_list_of l) → new ≡ ls ++ l ∷ []
      → read_from empty ws 0 ≡ in_front (loop_lists_of new) (read_from empty ws (n + 1))
  unfolding this
  list_pushed l new e p =
      first ∙ ap this e ∙ front_more (loop_lists_of ls) (loop_list_of l) (read_from empty ws (n + 1))
      ∙ ap (λ (xs : List LoopList). in_front xs (read_from empty ws (n + 1))) (sym (ap loop_lists_of p ∙ held_more ls l))

pub lists_end : (empty : Text) (ws : List Text) (n : ℕ) (ls : List LoopList) → length ws / 2 ≤ n → in_front ls (read_from empty ws n) ≡ Ok ls
lists_end empty ws n ls h = ap (λ (ps : List (Text × Text)). in_front ls (shapes.loop_lists_of empty ps)) (no_pair_there ws n h) ∙ ap Ok (append-nil ls)

-- ---- keys and values in turn

keyed : (ps : Pairs) (i : ℕ) (k v : Text) → i < length ps → k ≡ get_or (keys_of ps) i k → v ≡ get_or (values_of ps) i v → flat (drop i ps) ≡ k ∷ v ∷ flat (drop (suc i) ps)
keyed [] i k v h e f = absurd (omega arith)
keyed (p ∷ ps) zero k v h e f = ap (λ (t : Text). t ∷ p.1 ∷ flat ps) (sym e) ∙ ap (λ (t : Text). k ∷ t ∷ flat ps) (sym f)
keyed (p ∷ ps) (suc i) k v h e f = keyed ps i k v (omega arith) e f

flat_more : (ts : List Text) (ps : Pairs) (i : ℕ) (k v : Text) → i < length ps → k ≡ get_or (keys_of ps) i k → v ≡ get_or (values_of ps) i v
    → ((ts ++ k ∷ []) ++ v ∷ []) ++ flat (drop (i + 1) ps) ≡ ts ++ flat (drop i ps)
flat_more ts ps i k v h e f =
    let one : suc i ≡ i + 1 = omega arith in
    append_assoc (ts ++ k ∷ []) (v ∷ []) (flat (drop (i + 1) ps)) ∙ append_assoc ts (k ∷ []) (v ∷ flat (drop (i + 1) ps))
    ∙ ap (λ (us : List Text). ts ++ us) (sym (keyed ps i k v h e f ∙ ap (λ (j : ℕ). k ∷ v ∷ flat (drop j ps)) one))

pub pair_pushed : (ts mid new : List Text) (ps : Pairs) (i : ℕ) (k v key value : Text) → i < length ps → k ≡ get_or (keys_of ps) i k → v ≡ get_or (values_of ps) i v
    → key ≡ k → value ≡ v → mid ≡ ts ++ key ∷ [] → new ≡ mid ++ value ∷ [] → ts ++ flat (drop i ps) ≡ flat ps → new ++ flat (drop (i + 1) ps) ≡ flat ps
pair_pushed ts mid new ps i k v key value h e f a b m n so_far =
    ap (λ (us : List Text). us ++ flat (drop (i + 1) ps)) (n ∙ ap (λ (us : List Text). us ++ value ∷ []) m ∙ ap (λ (t : Text). (ts ++ t ∷ []) ++ value ∷ []) a ∙ ap (λ (t : Text). (ts ++ k ∷ []) ++ t ∷ []) b)
    ∙ flat_more ts ps i k v h e f ∙ so_far
