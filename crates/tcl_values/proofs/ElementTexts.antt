-- Elements as texts, at a place.
use Rattle.std.proofs.Common.{◌≡◌, ℕ, ◌<◌, List, [], length, get_or, sym, ap, ◌∙◌}
use Rattle.std.proofs.lemmas.List.{get_or-map}
use Rattle.tcl_values.specs.Kept.{Kept, texts}

pub text_at : (ks : List Kept) (i : ℕ) (k : Kept) → i < length ks → k ≡ get_or ks i k → k.text ≡ get_or (texts ks) i []
text_at ks i k l is = ap (λ (q : Kept). q.text) is ∙ sym (get_or-map (λ (q : Kept). q.text) ks i k [] l)
