-- The words of a command: one of them, those from a place on, pairs of them.
use Rattle.std.proofs.Common.{◌≡◌, ◌≢◌, ℕ, zero, suc, ◌+◌, ◌≤◌, ◌<◌, List, [], ◌∷◌, length, drop, get_or, sym, ap, ◌∙◌, refl, arith}
use Rattle.tcl_pages.specs.Lists.{one_text, concat}
use Rattle.tcl_pages.specs.Texts.{Text}
use Rattle.tcl_pages.specs.Dictionaries.{pairs}

pub one_is : (ws : List Text) → length ws ≡ 1 → one_text ws ≡ get_or ws 0 []
one_is [] h = absurd (omega arith)
one_is (a ∷ []) h = refl
one_is (a ∷ b ∷ ws) h = absurd (omega arith)

pub several_are : (ws : List Text) → length ws ≢ 1 → one_text ws ≡ concat ws
several_are [] h = refl
several_are (a ∷ []) h = absurd (h refl)
several_are (a ∷ b ∷ ws) h = refl

pub no_pairs : (ws : List Text) → length ws ≤ 1 → pairs ws ≡ []
no_pairs [] h = refl
no_pairs (a ∷ []) h = refl
no_pairs (a ∷ b ∷ ws) h = absurd (omega arith)

-- the words from a place on: one, and the rest
pub word_and_rest : (ws : List Text) (n : ℕ) → n < length ws → drop n ws ≡ get_or ws n [] ∷ drop (n + 1) ws
word_and_rest [] n h = absurd (omega arith)
word_and_rest (w ∷ ws) zero h = refl
word_and_rest (w ∷ ws) (suc n) h =
    let e : suc n + 1 ≡ suc (n + 1) = omega arith in
    word_and_rest ws n (omega arith) ∙ ap (λ (k : ℕ). get_or ws n [] ∷ drop k (w ∷ ws)) (sym e)

pub none_left : (ws : List Text) (n : ℕ) → length ws ≤ n → drop n ws ≡ []
none_left [] zero h = refl
none_left [] (suc n) h = refl
none_left (w ∷ ws) zero h = absurd (omega arith)
none_left (w ∷ ws) (suc n) h = none_left ws n (omega arith)
