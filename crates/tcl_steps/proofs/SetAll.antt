-- Variables get texts, from left to right.
use Rattle.std.proofs.Common.{◌≡◌, ℕ, zero, suc, ◌+◌, ◌≤◌, ◌<◌, List, [], ◌∷◌, length, drop, get_or, Err, refl, sym, ap, subst, ◌∙◌, arith}
use Rattle.tcl_pages.specs.Texts.{Text}
use Rattle.tcl_meaning.specs.Completions.{Completion}
use Rattle.tcl_meaning.specs.Effects.{Plain}
use Rattle.tcl_meaning.specs.Value.{Value, Has, Fails}
use Rattle.tcl_meaning.specs.Variables.{set, set_all}
use Rattle.tcl_frames.specs.Standing.{Standing}
use Rattle.tcl_steps.proofs.Endings.{has_on, fails_on, then_becomes}
use Rattle.tcl_steps.proofs.WordLemmas.{word_and_rest, none_left}
use Rattle.tcl_steps.specs.Comes.{Becomes, Comes}
use Rattle.tcl_steps.specs.Ends.{Ends}
use Rattle.tcl_steps.specs.declared.stop.Stop.{Stop}
use Rattle.tcl_steps.specs.declared.stop.Stop.TheVariants as stop

-- texts behind a place
abbrev pub set_from : List Text → List Text → ℕ → Plain (Value (Unit {0}))
set_from names ts n = set_all (drop n names) (drop n ts)

-- the first of them, and the rest
first_set : (name : Text) (names ts : List Text) (f g : Standing) → Comes (set name (get_or ts 0 [])) f (Has tt) g → Becomes (set_all (name ∷ names) ts) f (set_all names (drop 1 ts)) g
first_set name names [] f g h = has_on (set name []) (λ u. set_all names []) f g tt h
first_set name names (t ∷ ts) f g h = has_on (set name t) (λ u. set_all names ts) f g tt h

first_isnt : (name : Text) (names ts : List Text) (f g : Standing) (c : Completion) → Comes (set name (get_or ts 0 [])) f (Fails c) g → Comes (set_all (name ∷ names) ts) f (Fails c) g
first_isnt name names [] f g c h = fails_on (set name []) (λ u. set_all names []) f g c h
first_isnt name names (t ∷ ts) f g c h = fails_on (set name t) (λ u. set_all names ts) f g c h

at_drop : (ts : List Text) (n : ℕ) → get_or (drop n ts) 0 [] ≡ get_or ts n []
at_drop [] zero = refl
at_drop [] (suc n) = refl
at_drop (t ∷ ts) zero = refl
at_drop (t ∷ ts) (suc n) = at_drop ts n

one_more : (ts : List Text) (n : ℕ) → drop 1 (drop n ts) ≡ drop (n + 1) ts
one_more [] n = ap (λ (us : List Text). drop 1 us) (none_left [] n (omega arith)) ∙ sym (none_left [] (n + 1) (omega arith))
one_more (t ∷ ts) zero = refl
one_more (t ∷ ts) (suc n) =
    let e : suc n + 1 ≡ suc (n + 1) = omega arith in
    one_more ts n ∙ ap (λ (k : ℕ). drop k (t ∷ ts)) (sym e)

module _ (names ts : List Text) (n : ℕ) (name t : Text) (before f g : Standing) (there : n < length names) (is : name ≡ get_or names n []) (text : t ≡ get_or ts n []) where
  here : drop n names ≡ name ∷ drop (n + 1) names
  here = word_and_rest names n there ∙ ap (λ (w : Text). w ∷ drop (n + 1) names) (sym is)

  its : t ≡ get_or (drop n ts) 0 []
  its = text ∙ sym (at_drop ts n)

  pub set_one : Becomes (set_all names ts) before (set_from names ts n) f → Comes (set name t) f (Has tt) g → Becomes (set_all names ts) before (set_from names ts (n + 1)) g
  set_one so_far h =
      then_becomes so_far
      (subst (λ (vs : List Text). Becomes (set_all vs (drop n ts)) f (set_from names ts (n + 1)) g) (sym here)
      (subst (λ (us : List Text). Becomes (set_all (name ∷ drop (n + 1) names) (drop n ts)) f (set_all (drop (n + 1) names) us) g) (one_more ts n)
      (first_set name (drop (n + 1) names) (drop n ts) f g (subst (λ (u : Text). Comes (set name u) f (Has tt) g) its h))))

  pub set_stops : (s : Stop) → Becomes (set_all names ts) before (set_from names ts n) f → Ends (set name t) f (Err s) g → Ends (set_all names ts) before (Err s) g
  set_stops (stop.Error c) so_far h =
      then_becomes so_far
      (subst (λ (vs : List Text). Comes (set_all vs (drop n ts)) f (Fails c) g) (sym here)
      (first_isnt name (drop (n + 1) names) (drop n ts) f g c (subst (λ (u : Text). Comes (set name u) f (Fails c) g) its h)))
  set_stops stop.Memory so_far h = tt

pub all_set : (names ts : List Text) (n : ℕ) (before f : Standing) → length names ≤ n → Becomes (set_all names ts) before (set_from names ts n) f → Comes (set_all names ts) before (Has tt) f
all_set names ts n before f h so_far =
    then_becomes so_far (subst (λ (vs : List Text). Comes (set_all vs (drop n ts)) f (Has tt) f) (sym (none_left names n h)) (record { same = λ cs ch m. refl }))

pub none_set : (names ts : List Text) (f : Standing) → Becomes (set_all names ts) f (set_from names ts 0) f
none_set names ts f = record { same = λ cs ch n. refl }
