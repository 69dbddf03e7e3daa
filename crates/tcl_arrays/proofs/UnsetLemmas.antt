-- array(n), unset: an array that goes, or that loses elements.
use Rattle.std.proofs.Common.{◌≡◌, List, [], ◌∷◌, true, false, Option, Some, None, Result, Ok, Err, refl, sym, ap, ◌∙◌}
use Rattle.std.specs.Prelude.{if◌then◌else◌}
use Rattle.std.specs.FinMap as map
use Rattle.tcl_arrays.specs.Changes.{changed_if}
use Rattle.tcl_frames.specs.Edits.{without_names}
use Rattle.tcl_frames.specs.Standing.{applied}
use Rattle.tcl_meaning.specs.Arrays.{Elements, array_of, array_unset, array_without, elements, elements_or_none, names_among, spot_named, whole_array, without_matches}
use Rattle.tcl_meaning.specs.Frames.{Variable, text, array, Part, whole, element, deeper, Spot}
use Rattle.tcl_meaning.specs.Names.{divided_name}
use Rattle.tcl_meaning.specs.State.{Store, Change, changed, set_variable, drop_variable}
use Rattle.tcl_meaning.specs.Variables.{missing, removed, remove_part, remove_change, stored, variable_at}
use Rattle.tcl_meaning.specs.declared.refusal.Refusal.{Refusal}
use Rattle.tcl_meaning.specs.declared.refusal.Refusal.TheVariants.{IsntArray}
use Rattle.tcl_pages.specs.Glob.{glob}
use Rattle.tcl_pages.specs.Texts.{Text}

-- what is a whole array
is_array : (v : Option Variable) (part : Part) (m : Elements) → whole_array v part ≡ Some m → (v ≡ Some (array m)) × (part ≡ whole)
is_array None whole m h = absurd (no_elements m h)
  where
    no_elements : (m : Elements) → None ≡ Some m → ⊥
    no_elements m e = cc
is_array None (element i) m h = cc
is_array None deeper m h = cc
is_array (Some (text t)) whole m h = cc
is_array (Some (text t)) (element i) m h = cc
is_array (Some (text t)) deeper m h = cc
is_array (Some (array n)) (element i) m h = cc
is_array (Some (array n)) deeper m h = cc
is_array (Some (array n)) whole m h = (ap (λ o. option_array o) h, refl)
  where
    option_array : Option Elements → Option Variable
    option_array None = None
    option_array (Some k) = Some (array k)

pub nothing_goes : (s : Store) (name : Text) (pattern : Option Text) → array_of s name ≡ None → changed_if (array_unset s name pattern) s ≡ s
nothing_goes s name pattern h = ap (λ o. changed_if (array_without (spot_named s name) pattern o) s) h

-- ---- as a whole

abbrev store_or : Store → Result Store Refusal → Store
store_or s (Ok t) = t
store_or s (Err refusal) = s

drops : (p : Spot) (miss : Refusal) (v : Option Variable) (part : Part) (m : Elements) → v ≡ Some (array m) → part ≡ whole → removed p (remove_part miss v part) ≡ Ok (drop_variable p.frame p.name)
drops p miss v part m e k = ap (λ o. removed p (remove_part miss o part)) e ∙ ap (λ j. removed p (remove_part miss (Some (array m)) j)) k

pub drop_is : (s : Store) (name : Text) (m : Elements) → array_of s name ≡ Some m → remove_change s name ≡ Ok (drop_variable (spot_named s name).frame (spot_named s name).name)
unfolding remove_change
drop_is s name m h =
    let p = spot_named s name in
    let is = is_array (variable_at s p) p.part m h in
    drops p (missing (divided_name name).part) (variable_at s p) p.part m is.0 is.1

pub array_goes : (s new : Store) (name : Text) (m : Elements) → array_of s name ≡ Some m → applied (remove_change s name) s ≡ Ok new → changed_if (array_unset s name None) s ≡ new
array_goes s new name m h k =
    ap (λ o. changed_if (array_without (spot_named s name) None o) s) h ∙ ap (store_or s) (sym (ap (λ r. applied r s) (drop_is s name m h)) ∙ k)

-- ---- by a pattern

one_by_one : (pattern : Text) (m : Elements) (es : List (Text × Text)) → without_names m (names_among (Some pattern) es) ≡ without_matches pattern m es
one_by_one pattern m [] = refl
one_by_one pattern m (e ∷ es) =
    elim (glob pattern e.0) as (λ b. without_names m (if b then e.0 ∷ names_among (Some pattern) es else names_among (Some pattern) es) ≡ without_matches pattern (if b then map.remove m e.0 else m) es) [
      | true ↦ one_by_one pattern (map.remove m e.0) es
      | false ↦ one_by_one pattern m es
    ]

-- a variable without some of its elements
abbrev pub taken_from : List Text → Option Variable → Part → Result Variable Refusal
taken_from is None whole = Ok (array (without_names map.empty is))
taken_from is (Some (array m)) whole = Ok (array (without_names m is))
taken_from is (Some (text t)) whole = Err IsntArray
taken_from is v (element i) = Err IsntArray
taken_from is v deeper = Err IsntArray

loses : (p : Spot) (v : Option Variable) (part : Part) (m : Elements) (is : List Text) → v ≡ Some (array m) → part ≡ whole → stored p (taken_from is v part) ≡ Ok (set_variable p.frame p.name (array (without_names m is)))
loses p v part m is e k = ap (λ o. stored p (taken_from is o part)) e ∙ ap (λ j. stored p (taken_from is (Some (array m)) j)) k

pub lose_is : (s : Store) (name : Text) (m : Elements) (is : List Text) → array_of s name ≡ Some m
    → stored (spot_named s name) (taken_from is (variable_at s (spot_named s name)) (spot_named s name).part) ≡ Ok (set_variable (spot_named s name).frame (spot_named s name).name (array (without_names m is)))
lose_is s name m is h =
    let p = spot_named s name in
    let k = is_array (variable_at s p) p.part m h in
    loses p (variable_at s p) p.part m is k.0 k.1

pub elements_go : (s new : Store) (name pattern : Text) (m : Elements) (is : List Text) → array_of s name ≡ Some m → is ≡ names_among (Some pattern) (map.entries (elements s name))
    → applied (stored (spot_named s name) (taken_from is (variable_at s (spot_named s name)) (spot_named s name).part)) s ≡ Ok new → changed_if (array_unset s name (Some pattern)) s ≡ new
elements_go s new name pattern m is h names k =
    let p = spot_named s name in
    let there : elements s name ≡ m = ap elements_or_none h in
    let same : without_matches pattern m (map.entries m) ≡ without_names m is =
    sym (one_by_one pattern m (map.entries m)) ∙ ap (λ n. without_names m (names_among (Some pattern) (map.entries n))) (sym there) ∙ ap (without_names m) (sym names) in
    ap (λ o. changed_if (array_without p (Some pattern) o) s) h
    ∙ ap (λ n. changed (set_variable p.frame p.name (array n)) s) same
    ∙ ap (store_or s) (sym (ap (λ r. applied r s) (lose_is s name m is h)) ∙ k)

pub not_refused : (s : Store) (name : Text) (m : Elements) (refusal : Refusal) → array_of s name ≡ Some m → remove_change s name ≡ Err refusal → ⊥
not_refused s name m refusal h k = apart (remove_change s name) _ refusal (drop_is s name m h) k
  where
    apart : (r : Result Change Refusal) (ch : Change) (refusal : Refusal) → r ≡ Ok ch → r ≡ Err refusal → ⊥
    apart r ch refusal e f = cc
