-- Texts that stand one behind the other.
use Rattle.std.specs.Prelude.{◌≡◌, ℕ, ◌≤◌, List, [], ◌∷◌, map, slice_range}
use Rattle.std.specs.Str.{chars, IsCharBoundary}
use Rattle.tcl_pages.specs.Texts.{Text}
use Rattle.tcl_code.specs.declared.rare.Stretch.{Stretch}

-- the texts at these stretches of bytes
abbrev pub cut : List ℕ → List Stretch → List Text
cut bytes stretches = map (λ s. chars (slice_range bytes s.start s.end)) stretches

-- a stretch begins and ends between two characters
abbrev pub IsCut : List ℕ → Stretch → Type 0
IsCut bytes s = (s.start ≤ s.end) × IsCharBoundary bytes s.start × IsCharBoundary bytes s.end

-- a stretch of bytes that are these
abbrev pub IsStretchOf : List ℕ → List ℕ → Stretch → Type 0
IsStretchOf bytes part s = IsCut bytes s × (slice_range bytes s.start s.end ≡ part)

abbrev pub AllCut : List ℕ → List Stretch → Type 0
AllCut bytes [] = Unit {0}
AllCut bytes (s ∷ ss) = IsCut bytes s × AllCut bytes ss
