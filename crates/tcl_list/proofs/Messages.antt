-- Messages that are written part by part.
use Rattle.std.proofs.Common.{◌≡◌, ℕ, List, [], ◌++◌, ap, ◌∙◌, append_assoc}

-- a text that three parts were written to
pub in_three : (m0 m1 m2 m3 a x b : List ℕ) → m0 ≡ [] → m1 ≡ m0 ++ a → m2 ≡ m1 ++ x → m3 ≡ m2 ++ b → m3 ≡ a ++ (x ++ b)
in_three m0 m1 m2 m3 a x b e0 e1 e2 e3 =
    e3 ∙ ap (λ t. t ++ b) (e2 ∙ ap (λ t. t ++ x) (e1 ∙ ap (λ t. t ++ a) e0)) ∙ append_assoc a x b
