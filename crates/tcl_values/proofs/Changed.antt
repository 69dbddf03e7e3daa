-- A value under a key that is changed: a list that grows beside its text, pairs of which one value becomes another.
use Rattle.std.proofs.Common.{◌≡◌, ℕ, zero, suc, ◌+◌, ◌<◌, ◌≤◌, List, [], ◌∷◌, ◌++◌, length, take, drop, get_or, max, slice_set, Result, Ok, Err, OnOk, OnErr, refl, sym, subst, ap, ◌∙◌, arith}
use Rattle.std.proofs.lemmas.List.{map-set}
use Rattle.tcl_chars.specs.Answers.{Answers, Stops}
use Rattle.tcl_chars.specs.declared.fault.Fault.{Fault}
use Rattle.tcl_chars.specs.declared.fault.Fault.TheVariants as fault
use Rattle.tcl_pages.specs.Answers.{Answer, ◌>>=◌}
use Rattle.tcl_pages.specs.Texts.{Text}
use Rattle.tcl_values.proofs.ElementPlaces.{text_there}
use Rattle.tcl_values.specs.Changes.{after_at}
use Rattle.tcl_values.specs.Kept.{Kept, texts, depth_over}
use Rattle.tcl_values.specs.Shape.{elements, AreKept}
use Rattle.tcl_values.specs.declared.element.Items.{Items}
use Rattle.tcl_values.proofs.Depths.{depth_below, depth_inserted, depth_over-push}

-- ---- a list that grows

-- an element behind others, which is not too deep
pub depth_low : (ks more : List Kept) (k : Kept) → depth_over ks < 64 → more ≡ ks ++ k ∷ [] → k.depth < 63 → depth_over more < 64
depth_low ks more k low m l = omega (arith, low, ap depth_over m, depth_over-push ks k, l)

-- it stays as shallow as what comes
pub lengthened_low : {A E : Type 0} (r : Result A E) (old new : Items) (more : List Kept) (i : ℕ) → AreKept old → AreKept new → old.depth < 64 → depth_over more < 64
    → OnOk r (elements new ≡ take i (elements old) ++ more ++ drop (i + 0) (elements old)) → OnErr r (new.depth ≡ old.depth) → new.depth < 64
lengthened_low (Ok x) old new more i was is low less done same = omega (arith, is.exact, depth_inserted (elements old) more (elements new) i 0 old.depth (depth_over more) done was.exact refl refl, low, less)
lengthened_low (Err x) old new more i was is low less done same = omega (arith, same, low)

-- ---- a value that becomes another

pub begun_is : (change : Text → Answer Text) (t new : Text) → t ≡ [] → change t ≡ Ok new → change [] ≡ Ok new
begun_is change t new e done = ap change (sym e) ∙ done

pub begun_stops : (change : Text → Answer Text) (t : Text) (f : Fault) → t ≡ [] → Stops f (change t) → Stops f (change [])
begun_stops change t f e done = subst (λ u. Stops f (change u)) e done

pub low_enough : (ks : List Kept) (i : ℕ) (k : Kept) (d : ℕ) → i < length ks → k ≡ get_or ks i k → depth_over ks ≤ d → d ≤ 64 → k.depth < 64
low_enough ks i k d l is below limit = omega (arith, depth_below ks i k l is, below, limit)

abbrev put_at : List Text → ℕ → Answer Text → Answer (List Text)
put_at ts i r = r >>= λ new. Ok (slice_set ts i new)

-- the element at a place has become another
pub changed_there : (change : Text → Answer Text) (ks : List Kept) (i : ℕ) (k new : Kept) → i < length ks → k ≡ get_or ks i k → change k.text ≡ Ok new.text → after_at change (texts ks) i ≡ Ok (texts (slice_set ks i new))
changed_there change ks i k new l is done = ap (λ t. put_at (texts ks) i (change t)) (text_there ks i k l is) ∙ ap (put_at (texts ks) i) done ∙ ap Ok (sym (map-set (λ (q : Kept). q.text) ks i new))

-- it makes the whole no deeper than the place of what it may be as deep as
pub depth_changed : (ks : List Kept) (i : ℕ) (k : Kept) (d n e m now : ℕ) → i < length ks → k ≡ get_or ks i k → depth_over ks ≤ d → n ≤ max k.depth m → e ≡ n → now ≡ max d (e + 1) → now ≤ max d (m + 1)
depth_changed ks i k d n e m now l is below within same new = omega (arith, depth_below ks i k l is, below, within, same, new)

set_there : (ks : List Kept) (i : ℕ) (k d : Kept) → i < length ks → get_or (slice_set ks i k) i d ≡ k
set_there [] i k d l = absurd (omega arith)
set_there (x ∷ ks) zero k d l = refl
set_there (x ∷ ks) (suc i) k d l = set_there ks i k d (omega (arith, l))

pub depth_there : (ks ls : List Kept) (i : ℕ) (k x : Kept) → i < length ks → ls ≡ slice_set ks i k → x ≡ get_or ls i x → x.depth ≡ k.depth
depth_there ks ls i k x l set is = ap (λ (q : Kept). q.depth) (is ∙ ap (λ qs. get_or qs i x) set ∙ set_there ks i k x l)

-- ---- what is meant, seen by more

pub stops_then : {A B : Type 0} (f : Fault) (m : Answer A) (g : A → Answer B) → Stops f m → Stops f (m >>= g)
stops_then (fault.Error t) m g e = ap (λ r. r >>= g) e
stops_then fault.Memory m g e = tt

pub answers_then : {X A B : Type 0} (r : Result X Fault) (m : Answer A) (x : A) (g : A → B) → Answers (λ (_ : X). x) r m → Answers (λ (_ : X). g x) r (m >>= λ a. Ok (g a))
answers_then (Ok y) m x g e = ap (λ r. r >>= λ a. Ok (g a)) e
answers_then (Err f) m x g e = stops_then f m (λ a. Ok (g a)) e
