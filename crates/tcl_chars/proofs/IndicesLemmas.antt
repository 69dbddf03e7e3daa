-- Where the sign of a sum stands.
use Rattle.std.proofs.Common.{◌≡◌, ℕ, ◌==◌, ◌||◌, List, [], ◌∷◌, refl}
use Rattle.std.proofs.lemmas.Bool.{cond_both}
use Rattle.tcl_chars.specs.Index.{to_sign, of_whole, number_or_sum}
use Rattle.tcl_chars.specs.Place.{EndsWith, tail}
use Rattle.tcl_chars.specs.declared.numbers.Dialect.{Dialect}
use Rattle.tcl_chars.specs.declared.numbers.Whole.{Whole}
use Rattle.tcl_chars.specs.declared.numbers.Whole.TheVariants.{Number, TooLarge, Not}
use Rattle.tcl_chars.proofs.Ends.{ends_self, ends_more}

sign_ends : (cs : List ℕ) → EndsWith cs (to_sign cs)
sign_ends [] = ends_self []
sign_ends (c ∷ cs) = cond_both ((c == 43) || (c == 45)) _ _ (EndsWith (c ∷ cs)) (λ _. ends_self (c ∷ cs)) (λ _. ends_more c cs (to_sign cs) (sign_ends cs))

-- the text ends with what it has left at a sign behind its first character
pub sum_ends : (cs : List ℕ) → EndsWith cs (to_sign (tail cs))
sum_ends [] = ends_self []
sum_ends (c ∷ cs) = ends_more c cs (to_sign cs) (sign_ends cs)

-- a number alone
pub alone : (dialect : Dialect) (cs : List ℕ) (w : Whole) → (w ≡ Not → ⊥) → number_or_sum dialect cs w ≡ of_whole w
alone dialect cs (Number n) h = refl
alone dialect cs TooLarge h = refl
alone dialect cs Not h = absurd (h refl)
