-- array(n), set: names and texts in turn, and the array that they go into.
use Rattle.std.proofs.Common.{◌≡◌, ◌≢◌, ◌%◌, List, [], ◌∷◌, length, Option, Some, None, Result, Ok, Err, refl, ap, ◌∙◌, arith}
use Rattle.std.specs.FinMap as map
use Rattle.tcl_arrays.specs.Changes.{set_of}
use Rattle.tcl_chars.specs.Texts.{literal}
use Rattle.tcl_frames.specs.Edits.{with_pairs}
use Rattle.tcl_frames.specs.Standing.{applied}
use Rattle.tcl_list.specs.Elements.{elements_of}
use Rattle.tcl_meaning.specs.Arrays.{Elements, no_array, array_begun, with_elements, array_set, spot_named}
use Rattle.tcl_meaning.specs.Frames.{Variable, text, array, Part, whole, element, deeper, Spot}
use Rattle.tcl_meaning.specs.State.{Store, Change, set_variable}
use Rattle.tcl_meaning.specs.Variables.{stored, variable_at}
use Rattle.tcl_meaning.specs.declared.refusal.Refusal.{Refusal}
use Rattle.tcl_meaning.specs.declared.refusal.Refusal.TheVariants.{IsntArray}
use Rattle.tcl_pages.specs.Answers.{Answer, ◌>>=◌}
use Rattle.tcl_pages.specs.Texts.{Text}

abbrev odd_list : Text
odd_list = literal "list must have an even number of elements"

with_odd : (ts : List Text) (m : Elements) → length ts % 2 ≢ 0 → with_elements m ts ≡ Err odd_list
with_odd [] m h = absurd (h refl)
with_odd (i ∷ []) m h = refl
with_odd (i ∷ t ∷ ts) m h = with_odd ts (map.insert m i t) (λ e. h (omega (arith, e)))

with_even : (ts : List Text) (m : Elements) → length ts % 2 ≡ 0 → with_elements m ts ≡ Ok (with_pairs m ts)
with_even [] m h = refl
with_even (i ∷ []) m h = absurd (omega (arith, h))
with_even (i ∷ t ∷ ts) m h = with_even ts (map.insert m i t) (omega (arith, h))

pub set_odd : (s : Store) (name : Text) (es : List Text) → length es % 2 ≢ 0 → set_of s name es ≡ Err odd_list
set_odd s name es h =
    ap (λ r. r >>= λ _. array_begun name (variable_at s (spot_named s name)) (spot_named s name).part >>= λ m. with_elements m es >>= λ new. Ok (set_variable (spot_named s name).frame (spot_named s name).name (array new)))
    (with_odd es map.empty h)

-- ---- a list of an even length

-- a variable once the pairs are in it
abbrev pub put_into : List Text → Option Variable → Part → Result Variable Refusal
put_into es None whole = Ok (array (with_pairs map.empty es))
put_into es (Some (array m)) whole = Ok (array (with_pairs m es))
put_into es (Some (text t)) whole = Err IsntArray
put_into es v (element i) = Err IsntArray
put_into es v deeper = Err IsntArray

-- a refusal, as `array set` tells it
abbrev pub told : Text → Result Change Refusal → Answer Change
told name (Ok ch) = Ok ch
told name (Err refusal) = Err (no_array name)

abbrev filled : Text → List Text → Spot → Answer Elements → Answer Change
filled name es p begun = begun >>= λ m. with_elements m es >>= λ new. Ok (set_variable p.frame p.name (array new))

by_even : (name : Text) (es : List Text) (p : Spot) (m : Elements) → length es % 2 ≡ 0 → filled name es p (Ok m) ≡ Ok (set_variable p.frame p.name (array (with_pairs m es)))
by_even name es p m h = ap (λ r. r >>= λ new. Ok (set_variable p.frame p.name (array new))) (with_even es m h)

by_part : (name : Text) (es : List Text) (p : Spot) (v : Option Variable) (part : Part) → length es % 2 ≡ 0 → filled name es p (array_begun name v part) ≡ told name (stored p (put_into es v part))
by_part name es p None whole h = by_even name es p map.empty h
by_part name es p (Some (array m)) whole h = by_even name es p m h
by_part name es p (Some (text t)) whole h = refl
by_part name es p None (element i) h = refl
by_part name es p (Some (array m)) (element i) h = refl
by_part name es p (Some (text t)) (element i) h = refl
by_part name es p None deeper h = refl
by_part name es p (Some (array m)) deeper h = refl
by_part name es p (Some (text t)) deeper h = refl

set_even : (s : Store) (name : Text) (es : List Text) → length es % 2 ≡ 0 → set_of s name es ≡ told name (stored (spot_named s name) (put_into es (variable_at s (spot_named s name)) (spot_named s name).part))
set_even s name es h =
    let p = spot_named s name in
    ap (λ r. r >>= λ _. filled name es p (array_begun name (variable_at s p) p.part)) (with_even es map.empty h) ∙ by_part name es p (variable_at s p) p.part h

abbrev store_or : Store → Result Store Refusal → Store
store_or s (Ok t) = t
store_or s (Err refusal) = s

told_applied : (name : Text) (r : Result Change Refusal) (s new : Store) → applied r s ≡ Ok new → applied (told name r) s ≡ Ok new
told_applied name (Ok ch) s new h = ap (λ (r : Result Store Refusal). Ok (store_or s r)) h
told_applied name (Err refusal) s new h = cc

pub set_done : (s new : Store) (name : Text) (es : List Text) → length es % 2 ≡ 0 → applied (stored (spot_named s name) (put_into es (variable_at s (spot_named s name)) (spot_named s name).part)) s ≡ Ok new → applied (set_of s name es) s ≡ Ok new
set_done s new name es h k = ap (λ r. applied r s) (set_even s name es h) ∙ told_applied name _ s new k

pub set_refused : (s : Store) (name : Text) (es : List Text) (refusal : Refusal) → length es % 2 ≡ 0 → stored (spot_named s name) (put_into es (variable_at s (spot_named s name)) (spot_named s name).part) ≡ Err refusal → set_of s name es ≡ Err (no_array name)
set_refused s name es refusal h k = set_even s name es h ∙ ap (told name) k

-- ---- by the list's text

pub by_elements : (s : Store) (name list : Text) (r : Answer (List Text)) → elements_of list ≡ r → array_set s name list ≡ (r >>= set_of s name)
by_elements s name list r e = ap (λ q. q >>= set_of s name) e
