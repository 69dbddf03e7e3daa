-- Words as patterns with their bodies: switch(n).
use Rattle.std.proofs.Common.{◌≡◌, ◌≢◌, ℕ, zero, suc, ◌+◌, ◌-◌, ◌*◌, ◌/◌, ◌<◌, ◌≤◌, Bool, true, false, List, [], ◌∷◌, length, length-drop, drop, Some, None, Ok, Err, sym, ap, ◌∙◌, refl, add-one, arith}
use Rattle.std.specs.Prelude.{Option, ◌||◌, if◌then◌else◌}
use Rattle.tcl_chars.specs.Texts.{literal}
use Rattle.tcl_chars.specs.Messages.{about}
use Rattle.tcl_control.proofs.SwitchOptions.{word_behind, drop_one}
use Rattle.tcl_steps.proofs.WordLemmas.{no_pairs}
use Rattle.tcl_arguments.specs.WordAt.{word}
use Rattle.tcl_steps.specs.Pairs.{pairs_in}
use Rattle.tcl_control.specs.Switching.{checked, body_among, body_behind, switch_form}
use Rattle.tcl_list.specs.Elements.{elements_of}
use Rattle.tcl_meaning.specs.Control.{switch_usage}
use Rattle.tcl_meaning.specs.Shapes.{is_word, paired, with_pattern, odd_pattern, is_dash, no_body, last_checked, body_from, is_default, matches, chosen}
use Rattle.tcl_pages.specs.Answers.{Answer, ◌>>=◌}
use Rattle.tcl_pages.specs.Texts.{Text}

-- ---- the first pair

pairs_step : (ws : List Text) → 1 < length ws → pairs_in ws ≡ (word ws 0, word ws 1) ∷ pairs_in (drop 2 ws)
pairs_step [] h = absurd (omega arith)
pairs_step (a ∷ []) h = absurd (omega arith)
pairs_step (a ∷ b ∷ ws) h = refl

-- ---- the body of a pattern

body_by : Bool → Text → List Text → Option Text
body_by b body ws = if b then body_from (pairs_in ws) else Some body

body_is : (ws : List Text) → 1 < length ws → body_from (pairs_in ws) ≡ body_by (is_dash (word ws 1)) (word ws 1) (drop 2 ws)
unfolding body_by
body_is ws h = ap body_from (pairs_step ws h)

pub body_here : (ws : List Text) → 1 < length ws → is_word (literal "-") (word ws 1) ≡ false → body_from (pairs_in ws) ≡ Some (word ws 1)
unfolding body_by
body_here ws h e = body_is ws h ∙ ap (λ b. body_by b (word ws 1) (drop 2 ws)) e

pub body_later : (ws : List Text) → 1 < length ws → is_word (literal "-") (word ws 1) ≡ true → body_from (pairs_in ws) ≡ body_from (pairs_in (drop 2 ws))
unfolding body_by
body_later ws h e = body_is ws h ∙ ap (λ b. body_by b (word ws 1) (drop 2 ws)) e

pub body_nowhere : (ws : List Text) → length ws ≤ 1 → body_from (pairs_in ws) ≡ None
body_nowhere ws h = ap body_from (no_pairs ws h)

-- ---- the pattern that is chosen

pub default_among : (ws : List Text) (p : Text) → 3 < length ws → is_default p (pairs_in (drop 2 ws)) ≡ false
default_among [] p h = absurd (omega arith)
default_among (a ∷ []) p h = absurd (omega arith)
default_among (a ∷ b ∷ []) p h = absurd (omega arith)
default_among (a ∷ b ∷ c ∷ []) p h = absurd (omega arith)
default_among (a ∷ b ∷ c ∷ d ∷ ws) p h = refl

pub default_last : (ws : List Text) (p : Text) → length ws ≤ 3 → is_default p (pairs_in (drop 2 ws)) ≡ is_word (literal "default") p
default_last ws p h = ap (is_default p) (no_pairs (drop 2 ws) (omega (arith, h, length-drop 2 ws)))

abbrev is_first : Bool → Text → List Text → Bool
is_first globs t ws = matches globs (word ws 0) t || is_default (word ws 0) (pairs_in (drop 2 ws))

chosen_by : Bool → Bool → Text → List Text → Option Text
chosen_by b globs t ws = if b then body_from ((word ws 0, word ws 1) ∷ pairs_in (drop 2 ws)) else chosen globs t (pairs_in (drop 2 ws))

chosen_is : (globs : Bool) (t : Text) (ws : List Text) → 1 < length ws → chosen globs t (pairs_in ws) ≡ chosen_by (is_first globs t ws) globs t ws
unfolding chosen_by
chosen_is globs t ws h = ap (chosen globs t) (pairs_step ws h)

pub chosen_here : (globs : Bool) (t : Text) (ws : List Text) → 1 < length ws → is_first globs t ws ≡ true → chosen globs t (pairs_in ws) ≡ body_from (pairs_in ws)
unfolding chosen_by
chosen_here globs t ws h e = chosen_is globs t ws h ∙ ap (λ b. chosen_by b globs t ws) e ∙ ap body_from (sym (pairs_step ws h))

pub chosen_later : (globs : Bool) (t : Text) (ws : List Text) → 1 < length ws → is_first globs t ws ≡ false → chosen globs t (pairs_in ws) ≡ chosen globs t (pairs_in (drop 2 ws))
unfolding chosen_by
chosen_later globs t ws h e = chosen_is globs t ws h ∙ ap (λ b. chosen_by b globs t ws) e

pub chosen_nowhere : (globs : Bool) (t : Text) (ws : List Text) → length ws ≤ 1 → chosen globs t (pairs_in ws) ≡ None
chosen_nowhere globs t ws h = ap (chosen globs t) (no_pairs ws h)

-- ---- all are checked

paired_even : (ws : List Text) (k : ℕ) → length ws ≡ 2 * k → paired ws ≡ Ok (pairs_in ws)
paired_even [] k h = refl
paired_even (a ∷ []) k h = absurd (omega arith)
paired_even (a ∷ b ∷ ws) zero h = absurd (omega arith)
paired_even (a ∷ b ∷ ws) (suc k) h = ap (with_pattern a b) (paired_even ws k (omega arith))

paired_odd : (ws : List Text) (k : ℕ) → length ws ≡ suc (2 * k) → paired ws ≡ Err odd_pattern
paired_odd [] k h = absurd (omega arith)
paired_odd (a ∷ []) k h = refl
paired_odd (a ∷ b ∷ ws) zero h = absurd (omega arith)
paired_odd (a ∷ b ∷ ws) (suc k) h = ap (with_pattern a b) (paired_odd ws k (omega arith))

abbrev last_by : Bool → Text → Answer (Unit {0})
last_by b p = if b then Err (no_body p) else Ok tt

last_is : (ws : List Text) (n k : ℕ) → length ws ≡ suc (suc n) → length ws ≡ 2 * k → last_checked (pairs_in ws) ≡ last_by (is_dash (word ws (suc n))) (word ws n)
last_is [] n k h e = absurd (omega arith)
last_is (a ∷ []) n k h e = absurd (omega arith)
last_is (a ∷ b ∷ []) zero k h e = refl
last_is (a ∷ b ∷ []) (suc n) k h e = absurd (omega arith)
last_is (a ∷ b ∷ c ∷ []) n k h e = absurd (omega arith)
last_is (a ∷ b ∷ c ∷ d ∷ ws) zero k h e = absurd (omega arith)
last_is (a ∷ b ∷ c ∷ d ∷ ws) (suc zero) k h e = absurd (omega arith)
last_is (a ∷ b ∷ c ∷ d ∷ ws) (suc (suc n)) zero h e = absurd (omega arith)
last_is (a ∷ b ∷ c ∷ d ∷ ws) (suc (suc n)) (suc k) h e = last_is (c ∷ d ∷ ws) n k (omega arith) (omega arith)

checked_is : (ws : List Text) (k : ℕ) → length ws ≡ 2 * k → checked ws ≡ last_checked (pairs_in ws)
checked_is ws k h = ap (λ r. r >>= last_checked) (paired_even ws k h)

-- of n words

pub pattern_left : (ws : List Text) (n : ℕ) → n ≡ length ws → n ≢ 2 * (n / 2) → checked ws ≡ Err odd_pattern
pattern_left ws n e h = ap (λ r. r >>= last_checked) (paired_odd ws (n / 2) (omega (arith, e, h)))

pub nothing_left : (ws : List Text) (n : ℕ) → n ≡ length ws → n ≡ 2 * (n / 2) → n / 2 ≡ 0 → checked ws ≡ Ok tt
nothing_left ws n e h z = checked_is ws (n / 2) (sym e ∙ h) ∙ ap last_checked (no_pairs ws (omega (arith, e, h, z)))

last_at : (ws : List Text) (n : ℕ) → n ≡ length ws → n ≡ 2 * (n / 2) → n / 2 ≢ 0 → checked ws ≡ last_by (is_dash (word ws (n - 1))) (word ws (n - 2))
last_at ws n e h z =
    let size : length ws ≡ suc (suc (n - 2)) = omega (arith, e, h, z) in
    let last : suc (n - 2) ≡ n - 1 = omega (arith, h, z) in
    let even : length ws ≡ 2 * (n / 2) = sym e ∙ h in
    checked_is ws (n / 2) even ∙ last_is ws (n - 2) (n / 2) size even ∙ ap (λ i. last_by (is_dash (word ws i)) (word ws (n - 2))) last

pub last_body : (ws : List Text) (n : ℕ) → n ≡ length ws → n ≡ 2 * (n / 2) → n / 2 ≢ 0 → is_word (literal "-") (word ws (n - 1)) ≡ false → checked ws ≡ Ok tt
last_body ws n e h z d = last_at ws n e h z ∙ ap (λ b. last_by b (word ws (n - 2))) d

pub last_dash : (ws : List Text) (n : ℕ) → n ≡ length ws → n ≡ 2 * (n / 2) → n / 2 ≢ 0 → is_word (literal "-") (word ws (n - 1)) ≡ true → checked ws ≡ Err (no_body (word ws (n - 2)))
last_dash ws n e h z d = last_at ws n e h z ∙ ap (λ b. last_by b (word ws (n - 2))) d

-- ---- among all

with_first : (a b : Text) (ws : List Text) (ps : List (Text × Text)) (r : Answer (List (Text × Text))) → ((qs : List (Text × Text)) → r ≡ Ok qs → qs ≡ pairs_in ws) → with_pattern a b r ≡ Ok ps → ps ≡ (a, b) ∷ pairs_in ws
with_first a b ws ps (Ok qs) later e =
    let same : (a, b) ∷ qs ≡ ps = cc in
    sym same ∙ ap (λ z. (a, b) ∷ z) (later qs refl)
with_first a b ws ps (Err m) later e = absurd cc

only_pairs : (ws : List Text) (ps : List (Text × Text)) → paired ws ≡ Ok ps → ps ≡ pairs_in ws
only_pairs [] ps e = cc
only_pairs (a ∷ []) ps e = absurd cc
only_pairs (a ∷ b ∷ ws) ps e = with_first a b ws ps (paired ws) (λ qs h. only_pairs ws qs h) e

among_by : (globs : Bool) (t : Text) (ws : List Text) (r : Answer (List (Text × Text))) → paired ws ≡ r → (r >>= last_checked) ≡ Ok tt
    → (r >>= λ ps. last_checked ps >>= λ _. Ok (chosen globs t ps)) ≡ Ok (chosen globs t (pairs_in ws))
among_by globs t ws (Ok ps) i e = ap (λ z. z >>= λ _. Ok (chosen globs t ps)) e ∙ ap (λ qs. Ok (chosen globs t qs)) (only_pairs ws ps i)
among_by globs t ws (Err m) i e = absurd cc

pub among_is : (globs : Bool) (t : Text) (ws : List Text) → checked ws ≡ Ok tt → body_among globs t ws ≡ Ok (chosen globs t (pairs_in ws))
among_is globs t ws e = among_by globs t ws (paired ws) refl e

among_bad_by : (globs : Bool) (t m : Text) (r : Answer (List (Text × Text))) → (r >>= last_checked) ≡ Err m → (r >>= λ ps. last_checked ps >>= λ _. Ok (chosen globs t ps)) ≡ Err m
among_bad_by globs t m (Ok ps) e = ap (λ z. z >>= λ _. Ok (chosen globs t ps)) e
among_bad_by globs t m (Err n) e = cc

pub among_fails : (globs : Bool) (t m : Text) (ws : List Text) → checked ws ≡ Err m → body_among globs t ws ≡ Err m
among_fails globs t m ws e = among_bad_by globs t m (paired ws) e

-- ---- behind the options

few_are : (globs : Bool) (ds : List Text) → length ds < 2 → body_behind globs ds ≡ switch_form
few_are globs [] h = refl
few_are globs (a ∷ []) h = refl
few_are globs (a ∷ b ∷ ws) h = absurd (omega arith)

list_is : (globs : Bool) (ds : List Text) → length ds ≡ 2 → body_behind globs ds ≡ (elements_of (word ds 1) >>= body_among globs (word ds 0))
list_is globs [] h = absurd (omega arith)
list_is globs (a ∷ []) h = absurd (omega arith)
list_is globs (a ∷ b ∷ []) h = refl
list_is globs (a ∷ b ∷ c ∷ ws) h = absurd (omega arith)

words_are : (globs : Bool) (ds : List Text) → 2 < length ds → body_behind globs ds ≡ body_among globs (word ds 0) (drop 1 ds)
words_are globs [] h = absurd (omega arith)
words_are globs (a ∷ []) h = absurd (omega arith)
words_are globs (a ∷ b ∷ []) h = absurd (omega arith)
words_are globs (a ∷ b ∷ c ∷ ws) h = refl

next_word : (ws : List Text) (i : ℕ) → word (drop i ws) 1 ≡ word ws (i + 1)
next_word ws i = next ws i ∙ ap (word ws) (sym (add-one i))
  where
    next : (ws : List Text) (i : ℕ) → word (drop i ws) 1 ≡ word ws (suc i)
    next [] zero = refl
    next [] (suc i) = refl
    next (w ∷ ws) zero = refl
    next (w ∷ ws) (suc i) = next ws i

pub few_behind : (globs : Bool) (ws : List Text) (i : ℕ) (said : Text) → length ws - i < 2 → said ≡ about (literal "wrong # args: should be") switch_usage [] → body_behind globs (drop i ws) ≡ Err said
few_behind globs ws i said h e = few_are globs (drop i ws) (omega (arith, h, length-drop i ws)) ∙ ap Err (sym e)

list_at : (globs : Bool) (ws : List Text) (i : ℕ) (t list : Text) → length ws - i ≡ 2 → t ≡ word ws i → list ≡ word ws (i + 1) → body_behind globs (drop i ws) ≡ (elements_of list >>= body_among globs t)
list_at globs ws i t list h e f =
    list_is globs (drop i ws) (length-drop i ws ∙ h) ∙ ap (λ l. elements_of l >>= body_among globs (word (drop i ws) 0)) (next_word ws i ∙ sym f)
    ∙ ap (λ w. elements_of list >>= body_among globs w) (word_behind ws i ∙ sym e)

pub list_behind : (globs : Bool) (ws : List Text) (i : ℕ) (t list : Text) (es : List Text) → length ws - i ≡ 2 → t ≡ word ws i → list ≡ word ws (i + 1) → elements_of list ≡ Ok es
    → body_behind globs (drop i ws) ≡ body_among globs t es
list_behind globs ws i t list es h e f g = list_at globs ws i t list h e f ∙ ap (λ r. r >>= body_among globs t) g

pub list_bad : (globs : Bool) (ws : List Text) (i : ℕ) (t list m : Text) → length ws - i ≡ 2 → t ≡ word ws i → list ≡ word ws (i + 1) → elements_of list ≡ Err m → body_behind globs (drop i ws) ≡ Err m
list_bad globs ws i t list m h e f g = list_at globs ws i t list h e f ∙ ap (λ r. r >>= body_among globs t) g

pub words_behind : (globs : Bool) (ws : List Text) (i : ℕ) (t : Text) → 2 < length ws - i → t ≡ word ws i → body_behind globs (drop i ws) ≡ body_among globs t (drop (i + 1) ws)
words_behind globs ws i t h e =
    words_are globs (drop i ws) (omega (arith, h, length-drop i ws)) ∙ ap (λ w. body_among globs w (drop 1 (drop i ws))) (word_behind ws i ∙ sym e) ∙ ap (body_among globs t) (drop_one ws i)
