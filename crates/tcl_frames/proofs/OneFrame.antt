-- Frames that go until one is left.
use Rattle.std.proofs.Common.{◌≡◌, ℕ, zero, suc, ◌-◌, ◌<◌, ◌≤◌, List, [], ◌∷◌, length, take, refl, ap, ◌∙◌, arith}
use Rattle.std.proofs.lemmas.List.{length-take-le}
use Rattle.std.specs.FinMap as map
use Rattle.tcl_meaning.specs.Frames.{Frame}
use Rattle.tcl_meaning.specs.State.{Commands, with_active}
use Rattle.tcl_frames.specs.Standing.{Standing, store_of, standing_of_store, left}
use Rattle.tcl_frames.specs.Unwound.{unwound}

first_of : (k : ℕ) (fs : List Frame) → 1 ≤ k → take 1 (take k fs) ≡ take 1 fs
first_of zero fs h = absurd (omega arith)
first_of (suc k) [] h = refl
first_of (suc k) (f ∷ fs) h = refl

pub left_first : (f g : Standing) → g ≡ left f → 1 < length f.frames → take 1 g.frames ≡ take 1 f.frames
left_first f g e more = ap (λ x. take 1 x.frames) e ∙ first_of (length f.frames - 1) f.frames (omega arith)

pub left_count : (f g : Standing) → g ≡ left f → 1 < length f.frames → length g.frames ≡ length f.frames - 1
left_count f g e more = ap (λ x. length x.frames) e ∙ length-take-le (length f.frames - 1) f.frames (omega arith)

one_whole : (fs : List Frame) → length fs ≤ 1 → fs ≡ take 1 fs
one_whole [] h = refl
one_whole (f ∷ []) h = refl
one_whole (f ∷ g ∷ fs) h = absurd (omega arith)

pub one_left : (old f g : Standing) → take 1 f.frames ≡ take 1 old.frames → length f.frames ≤ 1 → ((cs : Commands) → store_of cs g ≡ with_active 0 (store_of cs f)) → g ≡ unwound old
one_left old f g same one e =
    ap standing_of_store (e map.empty) ∙ ap (λ fs. record { frames = fs; active = 0 }) (one_whole f.frames one ∙ same)
