-- Options are joined as if the pairs of `-options` stood in its place, by each bound that is no smaller than they are.
use Rattle.std.proofs.Common.{◌≡◌, ◌≢◌, ℕ, zero, suc, ◌+◌, ◌≤◌, true, false, [], ◌∷◌, ◌++◌, length, Ok, Err, sym, ap, ◌∙◌, subst, refl, arith, append_assoc, inl, inr}
use Rattle.std.proofs.lemmas.Bool.{cases_Bool, cond-true, cond-false, false_from_ne_true, true≢false}
use Rattle.std.proofs.lemmas.Slice.Eq.{bytes_eq-Decides}
use Rattle.tcl_chars.proofs.Same.{text_is}
use Rattle.tcl_chars.specs.Texts.{literal}
use Rattle.tcl_meaning.specs.Codes.{options_joined, size_of, else_message, no_options}
use Rattle.tcl_pages.specs.Answers.{Answer, ◌>>=◌}
use Rattle.tcl_pages.specs.Dictionaries.{Pairs, put_key, pairs_of}
use Rattle.tcl_pages.specs.Texts.{Text, same_text}
use Rattle.tcl_laws.specs.ReturnOptions.{Joins, OptionsAreJoined, BoundNeverShows}
use Rattle.tcl_laws.specs.ReturnOptions.Joins.{none, other, among, refused}
use Rattle.tcl_meaning.proofs.OptionSizes.{size_append, pairs_of_size}

-- ---- options and more behind them

-- what the answer of some makes with the pairs behind them
abbrev Then : Answer Pairs → Pairs → Answer Pairs → Type 0
Then (Ok all) ps a = Joins all ps a
Then (Err m) ps a = a ≡ Err m

abbrev Divided : Pairs → Pairs → Pairs → Answer Pairs → Type 0
Divided found more ps a = (b : Answer Pairs) × Joins found more b × Then b ps a

divided : (found qs more ps : Pairs) (a : Answer Pairs) → Joins found qs a → qs ≡ more ++ ps → Divided found more ps a
divided found qs [] ps a j e = (Ok found, none found, subst (λ t. Joins found t a) e j)
divided _ _ (p ∷ more) ps _ (none found) e = absurd cc
divided _ _ (p ∷ more) ps _ (other found rest key value a k j) e =
    let same : (key, value) ≡ p = cc in
    let f : rest ≡ more ++ ps = cc in
    let (b, i, t) = divided (put_key found key value) rest more ps a j f in
    (b, subst (λ q. Joins found (q ∷ more) b) same (other found more key value b k i), t)
divided _ _ (p ∷ more) ps _ (among found rest inner key value a k r j) e =
    let same : (key, value) ≡ p = cc in
    let f : rest ≡ more ++ ps = cc in
    let (b, i, t) = divided found (inner ++ rest) (inner ++ more) ps a j (ap (λ t. inner ++ t) f ∙ sym (append_assoc inner more ps)) in
    (b, subst (λ q. Joins found (q ∷ more) b) same (among found more inner key value b k r i), t)
divided _ _ (p ∷ more) ps _ (refused found rest key value m k r) e =
    let same : (key, value) ≡ p = cc in
    (Err (no_options value), subst (λ q. Joins found (q ∷ more) (Err (no_options value))) same (refused found more key value m k r), refl)

-- ---- what the options make is what is computed

is_options : (key : Text) → key ≡ literal "-options" → same_text key (literal "-options") ≡ true
is_options key e = (bytes_eq-Decides key (literal "-options")).1 e

no_options_key : (key : Text) → key ≢ literal "-options" → same_text key (literal "-options") ≡ false
no_options_key key h = false_from_ne_true _ (λ e. h (text_is key (literal "-options") e))

abbrev Computed : ℕ → Type 0
Computed n = (found ps : Pairs) (a : Answer Pairs) → size_of ps ≤ n → Joins found ps a → options_joined n found ps ≡ a

computed_then : (n : ℕ) (ps : Pairs) (b a : Answer Pairs) → Computed n → size_of ps ≤ n → Then b ps a → (b >>= λ all. options_joined n all ps) ≡ a
computed_then n ps (Ok all) a known h t = known all ps a h t
computed_then n ps (Err m) a known h t = sym t

computed : (n : ℕ) → Computed n
computed n _ _ _ h (none found) = refl
computed zero _ _ _ h (other found ps key value a k j) = absurd (omega (arith, h))
computed zero _ _ _ h (among found ps more key value a k r j) = absurd (omega (arith, h))
computed zero _ _ _ h (refused found ps key value m k r) = absurd (omega (arith, h))
computed (suc n) _ _ _ h (other found ps key value a k j) = cond-false _ _ _ (no_options_key key k) ∙ computed n (put_key found key value) ps a (omega (arith, h)) j
computed (suc n) _ _ _ h (among found ps more key value a k r j) =
    let s = pairs_of_size value more r in
    let (b, i, t) = divided found (more ++ ps) more ps a j refl in
    cond-true _ _ _ (is_options key k)
    ∙ ap (λ q. else_message (no_options value) q >>= λ new. options_joined n found new >>= λ all. options_joined n all ps) r
    ∙ ap (λ q. q >>= λ all. options_joined n all ps) (computed n found more b (omega (arith, s, h)) i)
    ∙ computed_then n ps b a (computed n) (omega (arith, h)) t
computed (suc n) _ _ _ h (refused found ps key value m k r) =
    cond-true _ _ _ (is_options key k) ∙ ap (λ q. else_message (no_options value) q >>= λ new. options_joined n found new >>= λ all. options_joined n all ps) r

-- ---- and the options make something

abbrev Made : Pairs → Pairs → Type 0
Made found ps = (a : Answer Pairs) × Joins found ps a

made_of : (n : ℕ) (found ps : Pairs) (key value : Text) (r : Answer Pairs) → ((qs : Pairs) → size_of qs ≤ n → Made found qs) → length value + size_of ps ≤ n → key ≡ literal "-options" → pairs_of value ≡ r → Made found ((key, value) ∷ ps)
made_of n found ps key value (Ok more) later h k r =
    let (a, j) = later (more ++ ps) (omega (arith, size_append more ps, pairs_of_size value more r, h)) in
    (a, among found ps more key value a k r j)
made_of n found ps key value (Err m) later h k r = (Err (no_options value), refused found ps key value m k r)

made : (n : ℕ) (found ps : Pairs) → size_of ps ≤ n → Made found ps
made n found [] h = (Ok found, none found)
made zero found (p ∷ ps) h = absurd (omega (arith, h))
made (suc n) found (p ∷ ps) h = elim (cases_Bool (same_text p.0 (literal "-options"))) [
  | inl is ↦ made_of n found ps p.0 p.1 (pairs_of p.1) (made n found) (omega (arith, h)) (text_is p.0 (literal "-options") is) refl
  | inr not ↦
      let (a, j) = made n (put_key found p.0 p.1) ps (omega (arith, h)) in
      (a, other found ps p.0 p.1 a (λ e. true≢false (sym (is_options p.0 e) ∙ not)) j)
]

-- ---- the laws

pub options_are_joined : OptionsAreJoined
options_are_joined n found ps a h = (
  (λ e. let (b, j) = made n found ps h in subst (Joins found ps) (sym (computed n found ps b h j) ∙ e) j),
  (λ j. computed n found ps a h j),
)

pub bound_never_shows : BoundNeverShows
bound_never_shows n found ps h =
    let (a, j) = made n found ps h in
    computed n found ps a h j ∙ sym (computed (size_of ps) found ps a (omega arith) j)
