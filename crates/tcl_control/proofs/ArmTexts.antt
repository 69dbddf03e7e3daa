-- Elements as texts: how many, and behind so many.
use Rattle.std.proofs.Common.{◌≡◌, ℕ, zero, suc, List, [], ◌∷◌, length, drop, refl, ap}
use Rattle.tcl_values.specs.Kept.{Kept, texts}

pub texts_length : (es : List Kept) → length (texts es) ≡ length es
texts_length [] = refl
texts_length (k ∷ es) = ap suc (texts_length es)

pub texts_behind : (n : ℕ) (es : List Kept) → texts (drop n es) ≡ drop n (texts es)
texts_behind zero es = refl
texts_behind (suc n) [] = refl
texts_behind (suc n) (k ∷ es) = texts_behind n es
