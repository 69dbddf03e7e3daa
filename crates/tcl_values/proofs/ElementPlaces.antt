-- Elements by their places, and the empty text beyond them.
use Rattle.std.proofs.Common.{◌≡◌, ℕ, zero, suc, ◌<◌, ◌≤◌, List, [], ◌∷◌, length, get_or, refl, sym, ap, arith}
use Rattle.std.proofs.lemmas.List.{length-map}
use Rattle.tcl_values.specs.Kept.{Kept, texts}

pub text_there : (ks : List Kept) (i : ℕ) (k : Kept) → i < length ks → k ≡ get_or ks i k → get_or (texts ks) i [] ≡ k.text
text_there [] i k h e = absurd (omega arith)
text_there (x ∷ ks) zero k h e = ap (λ (y : Kept). y.text) (sym e)
text_there (x ∷ ks) (suc i) k h e = text_there ks i k (omega arith) e

pub text_beyond : (ks : List Kept) (i : ℕ) → length ks ≤ i → get_or (texts ks) i [] ≡ []
text_beyond [] i h = refl
text_beyond (x ∷ ks) zero h = absurd (omega arith)
text_beyond (x ∷ ks) (suc i) h = text_beyond ks i (omega arith)

pub length_texts : (ks : List Kept) → length (texts ks) ≡ length ks
length_texts ks = length-map ks (λ (k : Kept). k.text)
