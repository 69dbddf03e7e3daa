-- What reducing keeps, frame by frame.
use Rattle.std.proofs.Common.{◌≡◌, ℕ, ◌<◌, ◌≤◌, List, [], ◌∷◌, refl, sym, ap, ◌∙◌}
use Rattle.tcl_expr.specs.Expr.{Expr}
use Rattle.tcl_expr.specs.Machine.{Held, held_level, finished, reduce}
use Rattle.tcl_expr.proofs.Complete.{reduce_on, stays}

pub reduce_nil : (r : ℕ) (x : Expr) (s t : List Held) (all : Expr × List Held) → s ≡ [] → t ≡ [] → reduce r x s ≡ all → all ≡ (x, t)
unfolding reduce
reduce_nil r x s t all a b e = sym e ∙ rw (a, b) refl

pub reduce_more : (r : ℕ) (x y : Expr) (h : Held) (s t : List Held) (all : Expr × List Held) → s ≡ h ∷ t → held_level h < r → y ≡ finished h x → reduce r x s ≡ all → reduce r y t ≡ all
reduce_more r x y h s t all a lt b e = ap (λ (z : Expr). reduce r z t) b ∙ sym (reduce_on r x h t lt) ∙ ap (reduce r x) (sym a) ∙ e

pub reduce_ends : (r : ℕ) (x : Expr) (h : Held) (s t u : List Held) (all : Expr × List Held) → s ≡ h ∷ t → r ≤ held_level h → u ≡ h ∷ t → reduce r x s ≡ all → all ≡ (x, u)
reduce_ends r x h s t u all a le b e = sym e ∙ ap (reduce r x) a ∙ stays r x h t le ∙ ap (λ (z : List Held). (x, z)) (sym b)
