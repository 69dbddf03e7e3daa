-- What is known of a code that one holds, and of the places of a list that grows.
use Rattle.std.proofs.Common.{◌≡◌, ℕ, zero, suc, List, [], ◌∷◌, ◌++◌, length, set, Option, Some, None, refl, sym, ap, ◌∙◌, subst}
use Rattle.std.specs.Prelude.{slice_get, option_map, IfSome, MatchOption}
use Rattle.std.proofs.lemmas.Option.{slice_get-map, get_or_from_slice_get}
use Rattle.tcl_pages.specs.Texts.{Text}
use Rattle.tcl_code.specs.Instructions.{Instruction}
use Rattle.tcl_code.specs.Shown.{CodeTexts, shown, shown_by, text_in, IsKnown, AllKnown, Listing, listing}
use Rattle.tcl_code.specs.Build.{with_count}
use Rattle.tcl_code.specs.declared.instr.Instr.{Instr}

-- the instruction that an item stands for, or the end
pub shown_at : (l : Listing) (p : ℕ) (o : Option Instr) → slice_get l.instrs p ≡ o → slice_get (shown_by l) p ≡ option_map (shown l.texts) o
shown_at l p o e = slice_get-map (shown l.texts) l.instrs p ∙ ap (option_map (shown l.texts)) e

-- its text is there
pub known_at : (ts : CodeTexts) (is : List Instr) (p : ℕ) (i : Instr) → AllKnown ts is → slice_get is p ≡ Some i → IsKnown ts i
known_at ts [] p i h e = absurd (cc)
known_at ts (j ∷ is) zero i h e =
    let P : Instr → Type 0 = λ x. IsKnown ts x in
    let f : j ≡ i = cc in
    subst P f h.0
known_at ts (j ∷ is) (suc p) i h e = known_at ts is p i h.1 e

known_there : (ts : CodeTexts) (is : List Instr) (p : ℕ) (o : Option Instr) → AllKnown ts is → slice_get is p ≡ o → IfSome o (λ i. IsKnown ts i)
known_there ts is p None h e = tt
known_there ts is p (Some i) h e = known_at ts is p i h e

module _ (is found : List Instr) (ts : CodeTexts) (p : ℕ) (o : Option Instr) (l : Listing) (e : listing is ts ≡ l) (f : found ≡ is) (h : o ≡ slice_get found p) where
  at_place : slice_get is p ≡ o
  at_place = ap (λ x. slice_get x p) (sym f) ∙ sym h

  pub shown_here : slice_get (shown_by l) p ≡ option_map (shown l.texts) o
  shown_here = let P : Listing → Type 0 = λ x. slice_get (shown_by x) p ≡ option_map (shown x.texts) o in subst P e (shown_at (listing is ts) p o at_place)

  pub known_here : AllKnown ts is → IfSome o (λ i. IsKnown l.texts i)
  known_here k = let P : Listing → Type 0 = λ x. IfSome o (λ i. IsKnown x.texts i) in subst P e (known_there ts is p o k at_place)

-- the text that is found is the item's
pub text_found : (ts : List Text) (n : ℕ) (t : Text) → slice_get ts n ≡ Some t → text_in ts n ≡ t
text_found ts n t e = get_or_from_slice_get ts n t [] e

-- ---- a skip that was emitted behind others is set

get_seam : (front back : List Instruction) (i : Instruction) → slice_get (front ++ i ∷ back) (length front) ≡ Some i
get_seam [] back i = refl
get_seam (x ∷ front) back i = get_seam front back i

set_seam : (front back : List Instruction) (i j : Instruction) → set (front ++ i ∷ back) (length front) j ≡ front ++ j ∷ back
set_seam [] back i j = refl
set_seam (x ∷ front) back i j = ap (λ z. x ∷ z) (set_seam front back i j)

pub patched_seam : (front back : List Instruction) (i : Instruction) (n p : ℕ) (old new : List Instruction) → old ≡ front ++ i ∷ back → p ≡ length front → MatchOption (slice_get old p) (new ≡ old) (λ j. new ≡ set old p (with_count n j)) → new ≡ front ++ with_count n i ∷ back
patched_seam front back i n p old new e k h =
    let P : Option Instruction → Type 0 = λ o. MatchOption o (new ≡ old) (λ j. new ≡ set old p (with_count n j)) in
    let at : slice_get old p ≡ Some i = ap (λ x. slice_get x p) e ∙ ap (slice_get (front ++ i ∷ back)) k ∙ get_seam front back i in
    subst P at h ∙ ap (λ x. set x p (with_count n i)) e ∙ ap (λ q. set (front ++ i ∷ back) q (with_count n i)) k ∙ set_seam front back i (with_count n i)
