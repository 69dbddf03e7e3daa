-- A set, a range or a character at a time.
use Rattle.std.proofs.Common.{◌≡◌, ℕ, suc, ◌==◌, ◌≤◌, Bool, true, false, ◌||◌, List, [], ◌∷◌, length, Option, Some, None, sym, ap, ◌∙◌, refl, arith, inl, inr}
use Rattle.std.proofs.lemmas.Bool.{cases_Bool, cond-true, cond-false, cond_both}
use Rattle.tcl_chars.specs.Place.{EndsWith}
use Rattle.tcl_chars.specs.Characters.{close_bracket}
use Rattle.tcl_chars.proofs.Ends.{ends_self, ends_more}
use Rattle.tcl_pages.specs.Glob.{in_set, is_between, dash, to_bracket}
use Rattle.tcl_glob.specs.Glob.{range_end}

or_false : (b : Bool) → b ≡ (b || false)
or_false true = refl
or_false false = refl

no_some : {A B : Type 0} (b : B) → None ≡ Some b → A
no_some b e = absurd cc

some_no : {A B : Type 0} (b : B) → Some b ≡ None → A
some_no b e = absurd cc

some_same : {B : Type 0} (a b : B) → Some a ≡ Some b → a ≡ b
some_same a b e = cc

pub with_range : (x c : ℕ) (cs : List ℕ) (r : ℕ × List ℕ) → range_end cs ≡ Some r → in_set (x ∷ cs) c ≡ (is_between x r.0 c || in_set r.1 c)
with_range x c [] r e = no_some r e
with_range x c (d ∷ []) r e = no_some r e
with_range x c (d ∷ z ∷ cs) r e =
    elim (cases_Bool (d == dash)) [
      | inl t ↦ cond-true _ _ _ t ∙ ap (λ (p : ℕ × List ℕ). is_between x p.0 c || in_set p.1 c) (some_same (z, cs) r (sym (cond-true _ _ _ t) ∙ e))
      | inr f ↦ no_some r (sym (cond-false _ _ _ f) ∙ e)
    ]

pub without_range : (x c : ℕ) (cs : List ℕ) → range_end cs ≡ None → in_set (x ∷ cs) c ≡ ((x == c) || in_set cs c)
without_range x c [] e = or_false (x == c)
without_range x c (d ∷ []) e = refl
without_range x c (d ∷ z ∷ cs) e =
    elim (cases_Bool (d == dash)) [
      | inl t ↦ some_no (z, cs) (sym (cond-true _ _ _ t) ∙ e)
      | inr f ↦ cond-false _ _ _ f
    ]

pub range_shorter : (cs : List ℕ) (r : ℕ × List ℕ) → Some r ≡ range_end cs → length r.1 ≤ length cs
range_shorter [] r e = some_no r e
range_shorter (d ∷ []) r e = some_no r e
range_shorter (d ∷ z ∷ cs) r e =
    cond_both (d == dash) _ _ (λ (o : Option (ℕ × List ℕ)). Some r ≡ o → length r.1 ≤ length (d ∷ z ∷ cs)) (λ _ p. within r (z, cs) p) (λ _ p. some_no r p) e
  where
    within : (a b : ℕ × List ℕ) → Some a ≡ Some b → length a.1 ≤ suc (suc (length b.1))
    within a b p = omega (arith, ap (λ (q : ℕ × List ℕ). length q.1) (some_same a b p))

pub ends_at_bracket : (cs : List ℕ) → EndsWith cs (to_bracket cs)
ends_at_bracket [] = ends_self []
ends_at_bracket (c ∷ cs) = cond_both (c == close_bracket) _ _ (EndsWith (c ∷ cs)) (λ _. ends_self (c ∷ cs)) (λ _. ends_more c cs (to_bracket cs) (ends_at_bracket cs))
