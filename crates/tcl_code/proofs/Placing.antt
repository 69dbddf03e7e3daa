-- Parts at the places of one table of shapes, which may lead to one another, ahead and back.
use Rattle.std.proofs.Common.{◌≡◌, ℕ, zero, suc, ◌+◌, ◌≤◌, List, [], ◌∷◌, ◌++◌, length, Some, refl, sym, ap, ◌∙◌, subst, arith}
use Rattle.std.specs.Prelude.{slice_get}
use Rattle.std.proofs.lemmas.Option.{slice_get_within}
use Rattle.tcl_code.specs.Instructions.{Instruction}
use Rattle.tcl_code.specs.Parts.{Fits}
use Rattle.tcl_code.specs.Valid.{Shape, target, IsFine, IsInside, EachWay, ways_of}
use Rattle.tcl_code.proofs.Shapes.{each_weaker, inside_le, inside_behind, target_behind}

module _ (table : ℕ → Shape) (count : ℕ) where
  -- an instruction at a place finds what it needs, and leads to places with the shapes that the table gives
  abbrev pub Stands : ℕ → Instruction → Type 0
  Stands n i = IsFine i (table n) × EachWay (λ k u. IsInside n count k × (table (target n k) ≡ u)) (ways_of i (table n))

  abbrev pub Placed : ℕ → List Instruction → Type 0
  Placed at [] = Unit {0}
  Placed at (i ∷ c) = Stands at i × Placed (at + 1) c

  pub placed_joined : (at : ℕ) (a b : List Instruction) → Placed at a → Placed (at + length a) b → Placed at (a ++ b)
  placed_joined at [] b h k = let e : at + 0 ≡ at = omega arith in subst (λ n. Placed n b) e k
  placed_joined at (i ∷ a) b h k =
      let e : at + length (i ∷ a) ≡ at + 1 + length a = omega arith in
      (h.0, placed_joined (at + 1) a b h.1 (subst (λ n. Placed n b) e k))

  placed_of : (at : ℕ) (c : List Instruction) → ((n : ℕ) (i : Instruction) → slice_get c n ≡ Some i → Stands (at + n) i) → Placed at c
  placed_of at [] h = tt
  placed_of at (i ∷ c) h =
      let e : at + 0 ≡ at = omega arith in (
        subst (λ n. Stands n i) e (h 0 i refl),
        placed_of (at + 1) c (λ n j k. let f : at + suc n ≡ at + 1 + n = omega arith in subst (λ m. Stands m j) f (h (suc n) j k)),
      )

  -- a part that fits, where the table has its shapes
  pub placed_fits : (c : List Instruction) (s t : Shape) (x : Fits c s t) (at : ℕ) → at + length c ≤ count → ((n : ℕ) → n ≤ length c → table (at + n) ≡ x.at n) → Placed at c
  placed_fits c s t x at le same = placed_of at c (λ n i h.
      let was = x.each n i h in
      let lt = slice_get_within c n i h in
      subst (λ z. IsFine i z × EachWay (λ k u. IsInside (at + n) count k × (table (target (at + n) k) ≡ u)) (ways_of i z)) (sym (same n (omega (arith, lt)))) (
        was.0,
        each_weaker (λ k u. IsInside n (length c) k × (x.at (target n k) ≡ u)) (λ k u. IsInside (at + n) count k × (table (target (at + n) k) ≡ u)) (ways_of i (x.at n)) was.1
            (λ k u w. (inside_behind at n (at + n) (length c) count k refl le w.0, ap table (target_behind at n (at + n) (length c) k refl w.0) ∙ same (target n k) (inside_le n (length c) k lt w.0) ∙ w.1)),
      ))

  placed_each : (at : ℕ) (c : List Instruction) → Placed at c → (n : ℕ) (i : Instruction) → slice_get c n ≡ Some i → Stands (at + n) i
  placed_each at [] h n i e = absurd (cc)
  placed_each at (j ∷ c) h zero i e =
      let f : at ≡ at + 0 = omega arith in
      let g : j ≡ i = cc in
      subst (λ n. Stands n i) f (subst (Stands at) g h.0)
  placed_each at (j ∷ c) h (suc n) i e = let f : at + 1 + n ≡ at + suc n = omega arith in subst (λ m. Stands m i) f (placed_each (at + 1) c h.1 n i e)

  -- all instructions of a part that begins the table
  pub fits_placed : (c : List Instruction) (s t : Shape) → count ≡ length c → table 0 ≡ s → table (length c) ≡ t → Placed 0 c → Fits c s t
  fits_placed c s t e first last h = record {
    at = table;
    starts = first;
    ends = last;
    each = λ n i k. subst (λ m. IsFine i (table n) × EachWay (λ j u. IsInside n m j × (table (target n j) ≡ u)) (ways_of i (table n))) e (let z : 0 + n ≡ n = omega arith in subst (λ m. Stands m i) z (placed_each 0 c h n i k));
  }
