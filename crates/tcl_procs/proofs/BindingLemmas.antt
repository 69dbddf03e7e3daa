-- One formal after another is given its word.
use Rattle.std.proofs.Common.{◌≡◌, ◌≤◌, Bool, true, false, true≢false, List, [], ◌∷◌, Option, None, Some, map as each, length, get_or, drop, refl, sym, ap, ◌∙◌, arith}
use Rattle.std.specs.FinMap as map
use Rattle.std.specs.Prelude.{if◌then◌else◌}
use Rattle.tcl_list.specs.Written.{written}
use Rattle.tcl_pages.specs.Texts.{Text}
use Rattle.tcl_chars.specs.Texts.{text_of}
use Rattle.tcl_meaning.specs.Frames.{Variables, text}
use Rattle.tcl_meaning.specs.Procedures.{bound, with_argument, with_default}
use Rattle.tcl_meaning.specs.State.{Formal}
use Rattle.tcl_procs.specs.Binding.{argument_of, takes_rest, with_given}
use Rattle.tcl_table.specs.Procedures.{formal_of}
use Rattle.tcl_table.specs.declared.command.Formal.{Formal as Kept}

-- the last formal takes the rest
pub rest_bound : (vs : Variables) (f : Formal) (fs : List Formal) (ws : List Text) → takes_rest (f ∷ fs) ≡ true → bound (Some vs) (f ∷ fs) ws ≡ Some (with_argument vs f (written ws))
rest_bound vs f (g ∷ fs) ws e = absurd (true≢false (sym e))
rest_bound vs f [] [] e = ap (λ b. if b then Some (with_argument vs f []) else with_default vs f f.default) e
rest_bound vs f [] (w ∷ ws) e = ap (λ b. if b then Some (with_argument vs f (written (w ∷ ws))) else bound (Some (with_argument vs f w)) [] ws) e

default_last : (vs : Variables) (f : Formal) (default : Option Text) → with_default vs f default ≡ bound (with_given vs f default) [] []
default_last vs f None = refl
default_last vs f (Some t) = refl

default_first : (vs : Variables) (f g : Formal) (fs : List Formal) (default : Option Text) → bound (with_default vs f default) (g ∷ fs) [] ≡ bound (with_given vs f default) (g ∷ fs) []
default_first vs f g fs None = refl
default_first vs f g fs (Some t) = refl

given : (vs : Variables) (f : Formal) (fs : List Formal) (ws : List Text) → takes_rest (f ∷ fs) ≡ false → bound (Some vs) (f ∷ fs) ws ≡ bound (with_given vs f (argument_of f ws)) fs (drop 1 ws)
given vs f [] [] e = ap (λ b. if b then Some (with_argument vs f []) else with_default vs f f.default) e ∙ default_last vs f f.default
given vs f [] (w ∷ ws) e = ap (λ b. if b then Some (with_argument vs f (written (w ∷ ws))) else bound (Some (with_argument vs f w)) [] ws) e
given vs f (g ∷ fs) [] e = default_first vs f g fs f.default
given vs f (g ∷ fs) (w ∷ ws) e = refl

-- a formal is given a word or its default
pub given_bound : (vs : Variables) (f : Formal) (fs : List Formal) (ws : List Text) (t : Text) → takes_rest (f ∷ fs) ≡ false → Some t ≡ argument_of f ws
    → bound (Some vs) (f ∷ fs) ws ≡ bound (Some (with_argument vs f t)) fs (drop 1 ws)
given_bound vs f fs ws t e h = given vs f fs ws e ∙ sym (ap (λ o. bound (with_given vs f o) fs (drop 1 ws)) h)

-- or it is not
pub none_bound : (vs : Variables) (f : Formal) (fs : List Formal) (ws : List Text) → takes_rest (f ∷ fs) ≡ false → None ≡ argument_of f ws → bound (Some vs) (f ∷ fs) ws ≡ None
none_bound vs f fs ws e h = given vs f fs ws e ∙ sym (ap (λ o. bound (with_given vs f o) fs (drop 1 ws)) h)

-- ---- in the code's own lists

front_is : {X : Type 0} (xs : List X) (x : X) → 1 ≤ length xs → x ≡ get_or xs 0 x → xs ≡ x ∷ drop 1 xs
front_is [] x h e = absurd (omega arith)
front_is (y ∷ ys) x h e = ap (λ z. z ∷ ys) (sym e)

module _ (whole : Option Variables) (vs : Variables) (fs : List Kept) (f : Kept) (ws : List Text) (now : whole ≡ bound (Some vs) (each formal_of fs) ws) (some : 1 ≤ length fs) (first : f ≡ get_or fs 0 f) where
  formals_are : each formal_of fs ≡ formal_of f ∷ each formal_of (drop 1 fs)
  formals_are = ap (each formal_of) (front_is fs f some first)

  rest_is : (takes : Bool) → takes_rest (each formal_of fs) ≡ takes → takes_rest (formal_of f ∷ each formal_of (drop 1 fs)) ≡ takes
  rest_is takes is = ap takes_rest (sym formals_are) ∙ is

  begun : whole ≡ bound (Some vs) (formal_of f ∷ each formal_of (drop 1 fs)) ws
  begun = now ∙ ap (λ gs. bound (Some vs) gs ws) formals_are

  pub bound_to_rest : takes_rest (each formal_of fs) ≡ true → (t name : Text) (after : Variables) → t ≡ written ws → name ≡ text_of f.name → after ≡ map.insert vs name (text t) → Some after ≡ whole
  bound_to_rest takes t name after w n p =
      ap Some (p ∙ ap (λ m. map.insert vs m (text t)) n ∙ ap (λ x. map.insert vs (text_of f.name) (text x)) w)
      ∙ sym (begun ∙ rest_bound vs (formal_of f) (each formal_of (drop 1 fs)) ws (rest_is true takes))

  pub bound_on : takes_rest (each formal_of fs) ≡ false → (t name : Text) (after : Variables) (left : List Kept) (rest : List Text) → Some t ≡ argument_of (formal_of f) ws → name ≡ text_of f.name → after ≡ map.insert vs name (text t)
      → left ≡ drop 1 fs → rest ≡ drop 1 ws → whole ≡ bound (Some after) (each formal_of left) rest
  bound_on more t name after left rest a n p l r =
      begun ∙ given_bound vs (formal_of f) (each formal_of (drop 1 fs)) ws t (rest_is false more) a ∙ sym (ap (λ m. bound (Some (map.insert vs m (text t))) (each formal_of (drop 1 fs)) (drop 1 ws)) n)
      ∙ sym (ap (λ v. bound (Some v) (each formal_of left) rest) p ∙ ap (λ gs. bound (Some (map.insert vs name (text t))) (each formal_of gs) rest) l
      ∙ ap (bound (Some (map.insert vs name (text t))) (each formal_of (drop 1 fs))) r)

  pub bound_to_none : takes_rest (each formal_of fs) ≡ false → None ≡ argument_of (formal_of f) ws → None ≡ whole
  bound_to_none more a = sym (begun ∙ none_bound vs (formal_of f) (each formal_of (drop 1 fs)) ws (rest_is false more) a)
