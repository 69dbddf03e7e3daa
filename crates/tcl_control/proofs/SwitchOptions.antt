-- The options in front of a switch(n)'s other words.
use Rattle.std.proofs.Common.{◌≡◌, ℕ, zero, suc, ◌+◌, ◌-◌, ◌<◌, ◌≤◌, Bool, true, false, List, [], ◌∷◌, length, length-drop, drop, Ok, Err, sym, ap, ◌∙◌, refl, add-one, arith}
use Rattle.std.specs.Prelude.{if◌then◌else◌}
use Rattle.tcl_chars.specs.Place.{begins}
use Rattle.tcl_chars.specs.Texts.{literal}
use Rattle.tcl_arguments.specs.WordAt.{word}
use Rattle.tcl_meaning.specs.Shapes.{Switch, switch_words, switch_option, is_word}
use Rattle.tcl_pages.specs.Answers.{Answer, ◌>>=◌}
use Rattle.tcl_pages.specs.Texts.{Text}

-- ---- places

pub word_behind : (ws : List Text) (i : ℕ) → word (drop i ws) 0 ≡ word ws i
word_behind [] zero = refl
word_behind [] (suc i) = refl
word_behind (w ∷ ws) zero = refl
word_behind (w ∷ ws) (suc i) = word_behind ws i

drop_more : (ws : List Text) (i : ℕ) → drop 1 (drop i ws) ≡ drop (suc i) ws
drop_more [] zero = refl
drop_more [] (suc i) = refl
drop_more (w ∷ ws) zero = refl
drop_more (w ∷ ws) (suc i) = drop_more ws i

pub drop_one : (ws : List Text) (i : ℕ) → drop 1 (drop i ws) ≡ drop (i + 1) ws
drop_one ws i = drop_more ws i ∙ ap (λ n. drop n ws) (sym (add-one i))

pub left_behind : (ws : List Text) (i n : ℕ) → n < length ws - i → n < length (drop i ws)
left_behind ws i n h = omega (arith, h, length-drop i ws)

-- ---- the next word

abbrev words_by : Bool → Bool → Answer Bool → Bool → Text → List Text → Answer Switch
words_by ends dashed option globs a ws =
    if ends then Ok (record { globs = globs; words = ws })
    else if dashed then option >>= (λ g. switch_words g ws)
    else Ok (record { globs = globs; words = a ∷ ws })

by_first : (globs : Bool) (ds : List Text) → 2 < length ds → switch_words globs ds ≡ words_by (is_word (literal "--") (word ds 0)) (begins 45 (word ds 0)) (switch_option (word ds 0)) globs (word ds 0) (drop 1 ds)
by_first globs [] h = absurd (omega arith)
by_first globs (a ∷ []) h = absurd (omega arith)
by_first globs (a ∷ b ∷ []) h = absurd (omega arith)
by_first globs (a ∷ b ∷ c ∷ ws) h = refl

few : (globs : Bool) (ds : List Text) → length ds ≤ 2 → switch_words globs ds ≡ Ok (record { globs = globs; words = ds })
few globs [] h = refl
few globs (a ∷ []) h = refl
few globs (a ∷ b ∷ []) h = refl
few globs (a ∷ b ∷ c ∷ ws) h = absurd (omega arith)

whole : (ds : List Text) → 2 < length ds → word ds 0 ∷ drop 1 ds ≡ ds
whole [] h = absurd (omega arith)
whole (a ∷ ws) h = refl

by_word : (globs : Bool) (ws : List Text) (i : ℕ) (t : Text) → 2 < length ws - i → t ≡ word ws i
    → switch_words globs (drop i ws) ≡ words_by (is_word (literal "--") t) (begins 45 t) (switch_option t) globs t (drop (i + 1) ws)
by_word globs ws i t h e =
    by_first globs (drop i ws) (left_behind ws i 2 h)
    ∙ ap (λ a. words_by (is_word (literal "--") a) (begins 45 a) (switch_option a) globs a (drop 1 (drop i ws))) (word_behind ws i ∙ sym e)
    ∙ ap (λ ds. words_by (is_word (literal "--") t) (begins 45 t) (switch_option t) globs t ds) (drop_one ws i)

pub options_end : (globs : Bool) (ws : List Text) (i : ℕ) (t : Text) → 2 < length ws - i → t ≡ word ws i → is_word (literal "--") t ≡ true
    → switch_words globs (drop i ws) ≡ Ok (record { globs = globs; words = drop (i + 1) ws })
options_end globs ws i t h e d =
    by_word globs ws i t h e ∙ ap (λ b. words_by b (begins 45 t) (switch_option t) globs t (drop (i + 1) ws)) d

pub no_option : (globs : Bool) (ws : List Text) (i : ℕ) (t : Text) → 2 < length ws - i → t ≡ word ws i → is_word (literal "--") t ≡ false → begins 45 t ≡ false
    → switch_words globs (drop i ws) ≡ Ok (record { globs = globs; words = drop i ws })
no_option globs ws i t h e d b =
    by_word globs ws i t h e ∙ ap (λ c. words_by c (begins 45 t) (switch_option t) globs t (drop (i + 1) ws)) d
    ∙ ap (λ c. words_by false c (switch_option t) globs t (drop (i + 1) ws)) b
    ∙ ap (λ ds. Ok (record { globs = globs; words = ds })) (ap (λ a. a ∷ drop (i + 1) ws) (e ∙ sym (word_behind ws i)) ∙ ap (λ ds. word (drop i ws) 0 ∷ ds) (sym (drop_one ws i)) ∙ whole (drop i ws) (left_behind ws i 2 h))

one_option : (globs : Bool) (ws : List Text) (i : ℕ) (t : Text) → 2 < length ws - i → t ≡ word ws i → is_word (literal "--") t ≡ false → begins 45 t ≡ true
    → switch_words globs (drop i ws) ≡ (switch_option t >>= (λ g. switch_words g (drop (i + 1) ws)))
one_option globs ws i t h e d b =
    by_word globs ws i t h e ∙ ap (λ c. words_by c (begins 45 t) (switch_option t) globs t (drop (i + 1) ws)) d
    ∙ ap (λ c. words_by false c (switch_option t) globs t (drop (i + 1) ws)) b

pub option_read : (globs next : Bool) (ws : List Text) (i : ℕ) (t : Text) → 2 < length ws - i → t ≡ word ws i → is_word (literal "--") t ≡ false → begins 45 t ≡ true → switch_option t ≡ Ok next
    → switch_words globs (drop i ws) ≡ switch_words next (drop (i + 1) ws)
option_read globs next ws i t h e d b r = one_option globs ws i t h e d b ∙ ap (λ a. a >>= (λ g. switch_words g (drop (i + 1) ws))) r

pub option_bad : (globs : Bool) (ws : List Text) (i : ℕ) (t m : Text) → 2 < length ws - i → t ≡ word ws i → is_word (literal "--") t ≡ false → begins 45 t ≡ true → switch_option t ≡ Err m
    → switch_words globs (drop i ws) ≡ Err m
option_bad globs ws i t m h e d b r = one_option globs ws i t h e d b ∙ ap (λ a. a >>= (λ g. switch_words g (drop (i + 1) ws))) r

pub options_few : (globs : Bool) (ws : List Text) (i : ℕ) → length ws - i ≤ 2 → switch_words globs (drop i ws) ≡ Ok (record { globs = globs; words = drop i ws })
options_few globs ws i h = few globs (drop i ws) (omega (arith, h, length-drop i ws))
