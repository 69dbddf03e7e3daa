-- Validity doesn't depend on texts.
use Rattle.std.proofs.Common.{◌≡◌, ℕ, zero, suc, List, [], ◌∷◌, length, Some, None, refl, ap, ◌∙◌, subst}
use Rattle.std.specs.Prelude.{slice_get}
use Rattle.tcl_code.specs.Instructions.{Instruction}
use Rattle.tcl_code.specs.Shown.{CodeTexts, no_texts, shown, instructions}
use Rattle.tcl_code.specs.declared.instr.Instr.{Instr}
use Rattle.tcl_code.specs.declared.instr.Instr.TheVariants as instr
use Rattle.tcl_code.specs.declared.instr.TextInstr.TheVariants as text_instr
use Rattle.tcl_code.specs.declared.shape.Shape.{Shape}
use Rattle.tcl_code.specs.Valid.{IsInside, ways_of, ways_at, Ways, HasWay, EachWay, IsFine, FineOrEnd, Comes, ComesIn, Covers, IsWithin, Valid, bare}
use Rattle.tcl_code.specs.Search.{Shapes, shape_at, Closed, Decides}
use Rattle.tcl_code.proofs.Found.{nothing_waits, all_covered}

module _ (ts us : CodeTexts) where
  same_ways : (i : Instr) (s : Shape) → ways_of (shown ts i) s ≡ ways_of (shown us i) s
  same_ways (instr.Push n) s = refl
  same_ways (instr.Read n) s = refl
  same_ways (instr.ReadPairs n) s = refl
  same_ways (instr.ReadList n) s = refl
  same_ways (instr.ReadElement n) s = refl
  same_ways (instr.Join n) s = refl
  same_ways instr.Spend s = refl
  same_ways (instr.Begin n) s = refl
  same_ways instr.Enter s = refl
  same_ways instr.Leave s = refl
  same_ways (instr.Call n) s = refl
  same_ways (instr.CallSlow n) s = refl
  same_ways instr.Gather s = refl
  same_ways instr.Add s = refl
  same_ways instr.AddAll s = refl
  same_ways instr.CallGathered s = refl
  same_ways (instr.Deal n) s = refl
  same_ways instr.TakeFirst s = refl
  same_ways instr.Duplicate s = refl
  same_ways (instr.SkipEmpty n) s = refl
  same_ways instr.DropList s = refl
  same_ways instr.Listed s = refl
  same_ways (instr.Raise n) s = refl
  same_ways (instr.Guard p n) s = refl
  same_ways (instr.Under n) s = refl
  same_ways (instr.Write n) s = refl
  same_ways (instr.Bump n) s = refl
  same_ways instr.Become s = refl
  same_ways (instr.Body b n) s = refl
  same_ways instr.Again s = refl
  same_ways instr.Collect s = refl
  same_ways instr.Break s = refl
  same_ways instr.Return s = refl
  same_ways instr.Continue s = refl
  same_ways (instr.Skip n) s = refl
  same_ways (instr.SkipWhen b n) s = refl
  same_ways (instr.Turn n) s = refl
  same_ways (instr.Unary u) s = refl
  same_ways (instr.Binary o) s = refl
  same_ways instr.Power s = refl
  same_ways (instr.Apply f n) s = refl
  same_ways instr.Truth s = refl
  same_ways instr.Final s = refl
  same_ways instr.Answer s = refl
  same_ways (instr.Rare text_instr.Push n) s = refl
  same_ways (instr.Rare text_instr.Read n) s = refl
  same_ways (instr.Rare text_instr.ReadElement n) s = refl
  same_ways (instr.Rare text_instr.Raise n) s = refl
  same_ways (instr.Rare text_instr.Under n) s = refl
  same_ways (instr.Rare text_instr.Write n) s = refl
  same_ways (instr.Rare text_instr.Bump n) s = refl

  same_fine : (i : Instr) (s : Shape) → IsFine (shown ts i) s → IsFine (shown us i) s
  same_fine (instr.Push n) s h = h
  same_fine (instr.Read n) s h = h
  same_fine (instr.ReadPairs n) s h = h
  same_fine (instr.ReadList n) s h = h
  same_fine (instr.ReadElement n) s h = h
  same_fine (instr.Join n) s h = h
  same_fine instr.Spend s h = h
  same_fine (instr.Begin n) s h = h
  same_fine instr.Enter s h = h
  same_fine instr.Leave s h = h
  same_fine (instr.Call n) s h = h
  same_fine (instr.CallSlow n) s h = h
  same_fine instr.Gather s h = h
  same_fine instr.Add s h = h
  same_fine instr.AddAll s h = h
  same_fine instr.CallGathered s h = h
  same_fine (instr.Deal n) s h = h
  same_fine instr.TakeFirst s h = h
  same_fine instr.Duplicate s h = h
  same_fine (instr.SkipEmpty n) s h = h
  same_fine instr.DropList s h = h
  same_fine instr.Listed s h = h
  same_fine (instr.Raise n) s h = h
  same_fine (instr.Guard p n) s h = h
  same_fine (instr.Under n) s h = h
  same_fine (instr.Write n) s h = h
  same_fine (instr.Bump n) s h = h
  same_fine instr.Become s h = h
  same_fine (instr.Body b n) s h = h
  same_fine instr.Again s h = h
  same_fine instr.Collect s h = h
  same_fine instr.Break s h = h
  same_fine instr.Return s h = h
  same_fine instr.Continue s h = h
  same_fine (instr.Skip n) s h = h
  same_fine (instr.SkipWhen b n) s h = h
  same_fine (instr.Turn n) s h = h
  same_fine (instr.Unary u) s h = h
  same_fine (instr.Binary o) s h = h
  same_fine instr.Power s h = h
  same_fine (instr.Apply f n) s h = h
  same_fine instr.Truth s h = h
  same_fine instr.Final s h = h
  same_fine instr.Answer s h = h
  same_fine (instr.Rare text_instr.Push n) s h = h
  same_fine (instr.Rare text_instr.Read n) s h = h
  same_fine (instr.Rare text_instr.ReadElement n) s h = h
  same_fine (instr.Rare text_instr.Raise n) s h = h
  same_fine (instr.Rare text_instr.Under n) s h = h
  same_fine (instr.Rare text_instr.Write n) s h = h
  same_fine (instr.Rare text_instr.Bump n) s h = h

  same_ways_at : (is : List Instr) (p : ℕ) (s : Shape) → ways_at (slice_get (instructions ts is) p) s ≡ ways_at (slice_get (instructions us is) p) s
  same_ways_at [] p s = refl
  same_ways_at (i ∷ is) zero s = same_ways i s
  same_ways_at (i ∷ is) (suc p) s = same_ways_at is p s

  same_length : (is : List Instr) → length (instructions ts is) ≡ length (instructions us is)
  same_length [] = refl
  same_length (i ∷ is) = ap suc (same_length is)

  comes_in : (is : List Instr) (n p : ℕ) (s : Shape) → ComesIn (instructions ts is) n p s → ComesIn (instructions us is) n p s
  comes_in is zero p s c = c
  comes_in is (suc n) p s c =
      let P : Ways → Type 0 = λ ws. HasWay ws c.2 s in
      (c.0, c.1, c.2, comes_in is n c.0 c.1 c.3, subst P (same_ways_at is c.0 c.1) c.4, c.5)

  pub comes_too : (is : List Instr) (p : ℕ) (s : Shape) → Comes (instructions ts is) p s → Comes (instructions us is) p s
  comes_too is p s c = record { steps = c.steps; comes = comes_in is c.steps p s c.comes }

-- the place of a code as long, with an instruction or none
fine_there : (ts us : CodeTexts) (is : List Instr) (code other : List Instruction) (place p : ℕ) (s : Shape) → length code ≡ length other → FineOrEnd code place s (slice_get (instructions ts is) p) → FineOrEnd other place s (slice_get (instructions us is) p)
fine_there ts us [] code other place p s l h = (h.0 ∙ l, h.1)
fine_there ts us (i ∷ is) code other place zero s l h =
    let P : ℕ → Type 0 = λ n. EachWay (λ k t. IsInside place n k) (ways_of (shown ts i) s) in
    let Q : Ways → Type 0 = λ ws. EachWay (λ k t. IsInside place (length other) k) ws in
    (same_fine ts us i s h.0, subst Q (same_ways ts us i s) (subst P l h.1))
fine_there ts us (i ∷ is) code other place (suc p) s l h = fine_there ts us is code other place p s l h

pub valid_too : (ts us : CodeTexts) (is : List Instr) → Valid (instructions ts is) → Valid (instructions us is)
valid_too ts us is v = record {
  fine = λ p s c. fine_there ts us is (instructions ts is) (instructions us is) p p s (same_length ts us is) (v.fine p s (comes_too us ts is p s c));
  agree = λ p s t c d. v.agree p s t (comes_too us ts is p s c) (comes_too us ts is p t d);
}

covers_too : (ts us : CodeTexts) (is : List Instr) (top : Shape) → Covers (instructions ts is) top → Covers (instructions us is) top
covers_too ts us is top v = record { each = λ p s c. v.each p s (comes_too us ts is p s c) }

-- ---- what the search answers

pub decided : (is : List Instr) (shapes found : Shapes) (pending : List ℕ) (top : Shape) → pending ≡ [] → shape_at shapes 0 ≡ Some bare → Closed (instructions no_texts is) shapes pending → found ≡ shapes → ((p : ℕ) (s : Shape) → shape_at found p ≡ Some s → IsWithin s top) → (ts : CodeTexts) → Decides (Some top) (instructions ts is)
decided is shapes found pending top e at closed f h ts =
    let P : List ℕ → Type 0 = λ x. Closed (instructions no_texts is) shapes x in
    let Q : Shapes → Type 0 = λ x. (p : ℕ) (s : Shape) → shape_at x p ≡ Some s → IsWithin s top in
    (valid_too no_texts ts is (nothing_waits (instructions no_texts is) shapes pending e at closed), covers_too no_texts ts is top (all_covered (instructions no_texts is) shapes top at (subst P e closed) (subst Q f h)))

pub undecided : (is : List Instr) → (Valid (instructions no_texts is) → ⊥) → (ts : CodeTexts) → Decides None (instructions ts is)
undecided is n ts = λ v. n (valid_too ts no_texts is v)
