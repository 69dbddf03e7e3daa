-- A text, repeated n times.
use Rattle.std.proofs.Common.{◌≡◌, ◌<◌, ◌-◌, ℕ, zero, suc, List, [], ◌++◌, append_assoc, refl, sym, ap, ◌∙◌, arith}
use Rattle.tcl_pages.specs.Strings.{repeated_text}

pub once_more : (n : ℕ) (t : List ℕ) → 0 < n → t ++ repeated_text (n - 1) t ≡ repeated_text n t
once_more zero t h = absurd (omega arith)
once_more (suc n) t h = ap (λ k. t ++ repeated_text k t) (omega arith)

pub of_nothing : (n : ℕ) (t : List ℕ) → t ≡ [] → [] ≡ repeated_text n t
of_nothing zero t h = refl
of_nothing (suc n) t h = of_nothing n t h ∙ ap (λ s. s ++ repeated_text n t) (sym h)

-- one time more is written
pub goes_on : (old new t whole : List ℕ) (left : ℕ) → 0 < left → new ≡ old ++ t → old ++ repeated_text left t ≡ whole → new ++ repeated_text (left - 1) t ≡ whole
goes_on old new t whole left h e k = ap (λ s. s ++ repeated_text (left - 1) t) e ∙ append_assoc old t _ ∙ ap (λ s. old ++ s) (once_more left t h) ∙ k
