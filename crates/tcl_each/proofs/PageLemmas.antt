-- What the words of loops over lists ask for.
use Rattle.std.proofs.Common.{◌≡◌, ◌≢◌, ℕ, zero, suc, ◌-◌, ◌*◌, ◌/◌, List, [], ◌∷◌, length, Some, None, Ok, Err, refl, sym, ap, ◌∙◌, arith}
use Rattle.std.specs.Prelude.{Option}
use Rattle.tcl_chars.specs.Texts.{literal}
use Rattle.tcl_steps.specs.Asked.{at_once}
use Rattle.tcl_arguments.specs.WordAt.{word}
use Rattle.tcl_pages.specs.Dictionaries.{pairs}
use Rattle.tcl_each.specs.LoopLists.{pairs_read}
use Rattle.tcl_list.specs.Elements.{elements_of}
use Rattle.tcl_meaning.specs.Asking.{Asks, usage}
use Rattle.tcl_meaning.specs.Completions.{failure}
use Rattle.tcl_meaning.specs.Control.{each_next, each_shaped, two_names, dict_for_page}
use Rattle.tcl_meaning.specs.Shapes.{each_shape, with_list, loop_lists_of}
use Rattle.tcl_meaning.specs.Tasks.{LoopList, Done}
use Rattle.tcl_meaning.specs.Value.{◌>>=◌, judged}
use Rattle.tcl_pages.specs.Answers.{Answer, ◌>>=◌ as andthen}
use Rattle.tcl_pages.specs.Dictionaries.{Pairs, pairs_of}
use Rattle.tcl_pages.specs.DictPages.{flat}
use Rattle.tcl_pages.specs.Texts.{Text}

-- ---- the words of foreach and lmap

no_pair : (ws : List Text) → length ws / 2 ≡ 0 → each_shape ws ≡ None
no_pair [] h = refl
no_pair (a ∷ []) h = refl
no_pair (a ∷ b ∷ ws) h = absurd (omega (arith, h))

even_words : (ws : List Text) (k : ℕ) → length ws ≡ 2 * k → each_shape ws ≡ None
even_words [] k h = refl
even_words (a ∷ []) k h = absurd (omega arith)
even_words (a ∷ b ∷ []) k h = refl
even_words (a ∷ b ∷ c ∷ []) k h = absurd (omega arith)
even_words (a ∷ b ∷ c ∷ d ∷ ws) zero h = absurd (omega arith)
even_words (a ∷ b ∷ c ∷ d ∷ ws) (suc k) h = ap (with_list a b) (even_words (c ∷ d ∷ ws) k (omega arith))

odd_words : (ws : List Text) (n k : ℕ) → length ws ≡ suc n → n ≡ 2 * suc k → each_shape ws ≡ Some (record { lists = pairs ws; body = word ws n })
odd_words [] n k h e = absurd (omega arith)
odd_words (a ∷ []) n k h e = absurd (omega arith)
odd_words (a ∷ b ∷ []) n k h e = absurd (omega arith)
odd_words (a ∷ b ∷ c ∷ []) zero k h e = absurd (omega arith)
odd_words (a ∷ b ∷ c ∷ []) (suc zero) k h e = absurd (omega arith)
odd_words (a ∷ b ∷ c ∷ []) (suc (suc zero)) k h e = refl
odd_words (a ∷ b ∷ c ∷ []) (suc (suc (suc n))) k h e = absurd (omega arith)
odd_words (a ∷ b ∷ c ∷ d ∷ ws) zero k h e = absurd (omega arith)
odd_words (a ∷ b ∷ c ∷ d ∷ ws) (suc zero) k h e = absurd (omega arith)
odd_words (a ∷ b ∷ c ∷ d ∷ ws) (suc (suc n)) zero h e = absurd (omega arith)
odd_words (a ∷ b ∷ c ∷ d ∷ ws) (suc (suc n)) (suc k) h e = ap (with_list a b) (odd_words (c ∷ d ∷ ws) n k (omega arith) (omega arith))

module _ (results : Option (List Text)) (u empty : Text) (ws : List Text) where
  pub too_few : length ws / 2 ≡ 0 → each_shaped results u empty (each_shape ws) ≡ usage u
  too_few h = ap (each_shaped results u empty) (no_pair ws h)

  pub no_body : (k : ℕ) → length ws ≡ 2 * k → each_shaped results u empty (each_shape ws) ≡ usage u
  no_body k h = ap (each_shaped results u empty) (even_words ws k h)

  shape_is : length ws / 2 ≢ 0 → length ws ≢ 2 * (length ws / 2) → each_shape ws ≡ Some (record { lists = pairs ws; body = word ws (2 * (length ws / 2)) })
  shape_is some odd =
      let count : length ws ≡ suc (2 * (length ws / 2)) = omega (arith, some, odd) in
      let pairs : 2 * (length ws / 2) ≡ 2 * suc (length ws / 2 - 1) = omega (arith, some) in
      odd_words ws (2 * (length ws / 2)) (length ws / 2 - 1) count pairs

  pub lists_ask : (ls : List LoopList) (body : Text) → length ws / 2 ≢ 0 → length ws ≢ 2 * (length ws / 2) → loop_lists_of empty (pairs ws) ≡ Ok ls → body ≡ word ws (2 * (length ws / 2))
      → each_shaped results u empty (each_shape ws) ≡ each_next (record { lists = ls; body = body; results = results })
  lists_ask ls body some odd e b =
      ap (each_shaped results u empty) (shape_is some odd)
      ∙ ap (λ (r : Answer (List LoopList)). judged r >>= λ lists. each_next (record { lists = lists; body = word ws (2 * (length ws / 2)); results = results })) e
      ∙ ap (λ (t : Text). each_next (record { lists = ls; body = t; results = results })) (sym b)

  pub lists_fail : (m : Text) → length ws / 2 ≢ 0 → length ws ≢ 2 * (length ws / 2) → loop_lists_of empty (pairs ws) ≡ Err m
      → at_once (each_shaped results u empty (each_shape ws)) ≡ Some (Done (failure m))
  lists_fail m some odd e =
      ap (λ s. at_once (each_shaped results u empty s)) (shape_is some odd)
      ∙ ap (λ (r : Answer (List LoopList)). at_once (judged r >>= λ lists. each_next (record { lists = lists; body = word ws (2 * (length ws / 2)); results = results }))) e

-- ---- dict for

abbrev over_pairs : Text → LoopList → Asks
over_pairs body l = each_next (record { lists = l ∷ []; body = body; results = None })

named_ask : (body : Text) (names : Answer (List Text)) (pairs : Answer Pairs)
    → (judged names >>= λ two. judged pairs >>= λ ps. over_pairs body (record { names = two; elements = flat ps }))
    ≡ (judged (andthen names (λ two. andthen pairs (λ ps. Ok (record { names = two; elements = flat ps })))) >>= over_pairs body)
named_ask body (Ok two) (Ok ps) = refl
named_ask body (Ok two) (Err m) = refl
named_ask body (Err m) pairs = refl

list_ask : (body : Text) (names : Answer (List Text)) (pairs : Answer Pairs)
    → (judged names >>= λ ns. judged (two_names ns) >>= λ two. judged pairs >>= λ ps. over_pairs body (record { names = two; elements = flat ps }))
    ≡ (judged (andthen names (λ ns. andthen (two_names ns) (λ two. andthen pairs (λ ps. Ok (record { names = two; elements = flat ps }))))) >>= over_pairs body)
list_ask body (Ok ns) pairs = named_ask body (two_names ns) pairs
list_ask body (Err m) pairs = refl

pairs_are : (ws : List Text) → length ws ≡ 3 → dict_for_page ws ≡ (judged (pairs_read (word ws 0) (word ws 1)) >>= over_pairs (word ws 2))
unfolding dict_for_page
pairs_are [] h = absurd (omega arith)
pairs_are (a ∷ []) h = absurd (omega arith)
pairs_are (a ∷ b ∷ []) h = absurd (omega arith)
pairs_are (names ∷ dictionary ∷ body ∷ []) h = list_ask body (elements_of names) (pairs_of dictionary)
pairs_are (a ∷ b ∷ c ∷ d ∷ ws) h = absurd (omega arith)

pub pairs_ask : (ws : List Text) (l : LoopList) (body : Text) → length ws ≡ 3 → pairs_read (word ws 0) (word ws 1) ≡ Ok l → body ≡ word ws 2 → dict_for_page ws ≡ over_pairs body l
pairs_ask ws l body h e b = pairs_are ws h ∙ ap (λ (r : Answer LoopList). judged r >>= over_pairs (word ws 2)) e ∙ ap (λ (t : Text). over_pairs t l) (sym b)

pub pairs_fail : (ws : List Text) (m : Text) → length ws ≡ 3 → pairs_read (word ws 0) (word ws 1) ≡ Err m → at_once (dict_for_page ws) ≡ Some (Done (failure m))
pairs_fail ws m h e = ap at_once (pairs_are ws h ∙ ap (λ (r : Answer LoopList). judged r >>= over_pairs (word ws 2)) e)

pub not_three : (ws : List Text) → length ws ≢ 3 → dict_for_page ws ≡ usage (literal "dict for {keyVarName valueVarName} dictionary script")
unfolding dict_for_page
not_three [] h = refl
not_three (a ∷ []) h = refl
not_three (a ∷ b ∷ []) h = refl
not_three (a ∷ b ∷ c ∷ []) h = absurd (h refl)
not_three (a ∷ b ∷ c ∷ d ∷ ws) h = refl
