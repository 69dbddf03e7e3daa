-- Sets of names that are put together.
use Rattle.std.proofs.Common.{◌≡◌, List, [], ◌∷◌, ◌++◌, Bool, true, false, cond, Option, Some, refl, sym, ap, ◌∙◌}
use Rattle.std.proofs.lemmas.List.{append-nil}
use Rattle.std.specs.FinMap as map
use Rattle.std.specs.FinMap.{same_map, get-insert}
use Rattle.std.specs.Cmp.Lexicographic.{slice_cmp, nat_list_cmp_total}
use Rattle.std.specs.Ordering.{eq_by_cmp, nat_cmp}
use Rattle.tcl_names.specs.Named.{Named}
use Rattle.tcl_names.proofs.Named.{exact}
use Rattle.tcl_pages.specs.Texts.{Text}
use Rattle.tcl_frames.specs.NameSets.{with_names}

abbrev pub Names : Type 0
Names = Named (Unit {0})

either_way : (x y : Bool) (u v : Unit {0}) (o : Option (Unit {0})) → cond x (Some v) (cond y (Some u) o) ≡ cond y (Some u) (cond x (Some v) o)
either_way true true u v o = refl
either_way true false u v o = refl
either_way false true u v o = refl
either_way false false u v o = refl

-- two names in either order
swapped : (m : Names) (a b : Text) (u v : Unit {0}) → map.insert (map.insert m a u) b v ≡ map.insert (map.insert m b v) a u
swapped m a b u v =
    same_map nat_list_cmp_total exact _ _ (λ q.
    let x = eq_by_cmp (slice_cmp nat_cmp) q b in
    let y = eq_by_cmp (slice_cmp nat_cmp) q a in
    get-insert nat_list_cmp_total (map.insert m a u) b v q ∙ ap (cond x (Some v)) (get-insert nat_list_cmp_total m a u q)
    ∙ either_way x y u v (map.get m q)
    ∙ sym (get-insert nat_list_cmp_total (map.insert m b v) a u q ∙ ap (cond y (Some u)) (get-insert nat_list_cmp_total m b v q)))

-- a name that is put in first, or last
last : (m : Names) (k : Text) (u : Unit {0}) (es : List (Text × Unit {0})) → with_names (map.insert m k u) es ≡ map.insert (with_names m es) k u
last m k u [] = refl
last m k u (e ∷ es) = ap (λ n. with_names n es) (swapped m k e.0 u e.1) ∙ last (map.insert m e.0 e.1) k u es

behind : (es fs : List (Text × Unit {0})) → with_names (map.from_entries fs) es ≡ map.from_entries (es ++ fs)
behind [] fs = refl
behind (e ∷ es) fs = last (map.from_entries fs) e.0 e.1 es ∙ ap (λ m. map.insert m e.0 e.1) (behind es fs)

pub together : (es fs : List (Text × Unit {0})) → with_names (with_names map.empty fs) es ≡ map.from_entries (es ++ fs)
together es fs = ap (λ m. with_names m es) (behind fs [] ∙ ap map.from_entries (append-nil fs)) ∙ behind es fs
