-- What the search for shapes has found.
use Rattle.std.specs.Prelude.{ℕ, zero, suc, ◌+◌, ◌*◌, ◌≤◌, ◌≡◌, List, [], ◌∷◌, ◌++◌, length, map, Option, Some, None, slice_get, ◌⊎◌, Bool, true, false, count_by}
use Rattle.tcl_code.specs.Instructions.{Instruction}
use Rattle.tcl_code.specs.Valid.{Comes, Covers, FineOrEnd, IsInside, Valid, Target, target, targets, inner_targets, left_by, inner}
use Rattle.tcl_code.specs.declared.numbers.Numbers.{Numbers}
use Rattle.tcl_code.specs.declared.numbers.Numbers.TheVariants as numbers
use Rattle.tcl_code.specs.declared.shape.Reached.{Reached}
use Rattle.tcl_code.specs.declared.shape.Shape.{Shape}

abbrev pub Has : {A : Type 0} → List A → A → Type 0
Has [] x = ⊥
Has (y ∷ ys) x = (x ≡ y) ⊎ Has ys x

abbrev pub EachTarget : (Target → Type 0) → List Target → Type 0
EachTarget P [] = Unit {0}
EachTarget P (k ∷ ks) = P k × EachTarget P ks

-- an instruction that stands at this place of `count` instructions leads inside
abbrev pub StaysInside : ℕ → ℕ → Instruction → Type 0
StaysInside place count i = EachTarget (IsInside place count) (targets i) × EachTarget (IsInside place count) (inner_targets i)

-- the places that it leads to
abbrev pub reached : ℕ → Instruction → List ℕ
reached place i = map (target place) (targets i)

-- the places that it leads to with another shape
abbrev pub begun : ℕ → Instruction → List ℕ
begun place i = map (target place) (inner_targets i)

abbrev pub maybe_one : Option ℕ → List ℕ
maybe_one None = []
maybe_one (Some p) = p ∷ []

abbrev pub listed : Reached → List ℕ
listed r = maybe_one r.first ++ maybe_one r.second

abbrev pub Shapes : Type 0
Shapes = List (Option Shape)

abbrev pub flat : Option (Option Shape) → Option Shape
flat None = None
flat (Some o) = o

abbrev pub shape_at : Shapes → ℕ → Option Shape
shape_at shapes place = flat (slice_get shapes place)

-- ---- how the shapes are kept: each once, and a number for each place

abbrev pub numbers_in : Numbers → List ℕ
numbers_in (numbers.Narrow v) = v.items
numbers_in (numbers.Wide v) = v.items

-- the shape of a number: of 0 there is none
abbrev pub numbered : List Shape → ℕ → Option Shape
numbered shapes zero = None
numbered shapes (suc n) = slice_get shapes n

abbrev pub all_numbered : List Shape → List ℕ → Shapes
all_numbered shapes ns = map (numbered shapes) ns

-- numbers up to one
abbrev pub AllWithin : ℕ → List ℕ → Type 0
AllWithin count [] = Unit {0}
AllWithin count (n ∷ ns) = (n ≤ count) × AllWithin count ns

-- shapes came at the end, or none did
abbrev pub HasMore : List Shape → List Shape → Type 0
HasMore old new = (more : List Shape) × (new ≡ old ++ more)

-- ---- what is looked at

abbrev pub unknown : Option Shape → Bool
unknown None = true
unknown (Some s) = false

-- falls with each place that is looked at
abbrev pub left_over : Shapes → List ℕ → ℕ
left_over shapes pending = 2 * count_by unknown shapes + length pending

-- a shape was noted at these places, as far as it fits
pub record Noted (fits : Bool) (places : List ℕ) (s : Shape) (old : Shapes) (old_pending : List ℕ) (new : Shapes) (new_pending : List ℕ) : Type 0 where
  pub there : fits ≡ true → (p : ℕ) → Has places p → shape_at new p ≡ Some s
  pub clash : fits ≡ false → (p : ℕ) × (t : Shape) × Has places p × (shape_at new p ≡ Some t) × (t ≡ s → ⊥)
  pub kept : (p : ℕ) (t : Shape) → shape_at old p ≡ Some t → shape_at new p ≡ Some t
  pub only : (p : ℕ) (t : Shape) → shape_at new p ≡ Some t → (shape_at old p ≡ Some t) ⊎ (Has places p × (t ≡ s) × Has new_pending p)
  pub waits : (p : ℕ) → Has old_pending p → Has new_pending p
  pub long : length new ≡ length old
  pub less : left_over new new_pending ≤ left_over old old_pending

-- each shape that was found is one of a way from the start
pub record Sound (code : List Instruction) (shapes : Shapes) : Type 0 where
  pub comes : (p : ℕ) (s : Shape) → shape_at shapes p ≡ Some s → Comes code p s

-- all that the instruction at a place leads to has the shape that it leaves
abbrev pub Followed : Option Instruction → Shapes → ℕ → Shape → Type 0
Followed None shapes p s = Unit {0}
Followed (Some i) shapes p s = ((q : ℕ) → Has (reached p i) q → shape_at shapes q ≡ Some (left_by i s)) × ((q : ℕ) → Has (begun p i) q → shape_at shapes q ≡ Some (inner i s))

pub record Settled (code : List Instruction) (shapes : Shapes) (p : ℕ) (s : Shape) : Type 0 where
  pub fine : FineOrEnd code p s (slice_get code p)
  pub there : Followed (slice_get code p) shapes p s

-- where a place has a shape and doesn't wait, all that it leads to was noted
pub record Closed (code : List Instruction) (shapes : Shapes) (pending : List ℕ) : Type 0 where
  pub settled : (p : ℕ) (s : Shape) → shape_at shapes p ≡ Some s → Has pending p ⊎ Settled code shapes p s

-- what the search answers: that the code isn't valid, or that it is, and a shape that no way goes beyond
abbrev pub Decides : Option Shape → List Instruction → Type 0
Decides None code = Valid code → ⊥
Decides (Some top) code = Valid code × Covers code top
