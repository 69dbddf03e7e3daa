-- Elements as texts, at a place that there isn't.
use Rattle.std.proofs.Common.{◌≡◌, ℕ, zero, suc, ◌≤◌, List, [], ◌∷◌, length, get_or, Result, Ok, Err, IfOk, refl, sym, ◌∙◌, arith}
use Rattle.tcl_pages.specs.Texts.{Text}
use Rattle.tcl_values.specs.Kept.{Kept, texts}

nothing_there : (es : List Kept) (i : ℕ) → length es ≤ i → get_or (texts es) i [] ≡ []
nothing_there [] zero h = refl
nothing_there [] (suc i) h = refl
nothing_there (k ∷ es) zero h = absurd (omega arith)
nothing_there (k ∷ es) (suc i) h = nothing_there es i (omega arith)

pub element_nowhere : {E : Type 0} (r : Result Text E) (es : List Kept) (i : ℕ) → length es ≤ i → IfOk r (λ t. t ≡ []) → IfOk r (λ t. t ≡ get_or (texts es) i [])
element_nowhere (Ok t) es i h e = e ∙ sym (nothing_there es i h)
element_nowhere (Err refused) es i h e = tt
