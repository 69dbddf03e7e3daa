-- Levels that no frame has: those from the number of frames on.
use Rattle.std.proofs.Common.{◌≡◌, ℕ, zero, suc, ◌<◌, ◌≤◌, List, length, None, refl, ◌∙◌, arith}
use Rattle.std.proofs.lemmas.Bool.{cond-false, ne_eqb}
use Rattle.tcl_meaning.specs.Frames.{Frame, frame_at, chain_of, nth, of_level, frame_of_level, up, at}
use Rattle.tcl_frames.specs.Standing.{Standing, IsStanding}

module _ (fs : List Frame) where
  none_so_far_up : (n k i : ℕ) → k < n → nth n (chain_of k fs i) ≡ None
  none_so_far_up zero k i lt = absurd (omega arith)
  none_so_far_up (suc n) zero i lt = refl
  none_so_far_up (suc n) (suc k) i lt = none_so_far_up n k (frame_at fs i).caller (omega arith)

  none_so_high : (n k i : ℕ) → ((j : ℕ) → (frame_at fs j).level ≤ j) → ((j : ℕ) → (frame_at fs j).caller ≤ j) → i < n → of_level fs n (chain_of k fs i) ≡ None
  none_so_high n zero i levels callers lt = cond-false _ _ _ (ne_eqb (frame_at fs i).level n (λ e. let low = levels i in omega (arith, low, e, lt)))
  none_so_high n (suc k) i levels callers lt =
      cond-false _ _ _ (ne_eqb (frame_at fs i).level n (λ e. let low = levels i in omega (arith, low, e, lt)))
      ∙ none_so_high n k (frame_at fs i).caller levels callers (let near = callers i in omega (arith, near, lt))

pub none_up : (f : Standing) (n : ℕ) → IsStanding f → length f.frames ≤ n → frame_of_level f.frames f.active (up n) ≡ None
none_up f n stands h =
    let low = stands.levels f.active in
    let inside = stands.sound.active in
    none_so_far_up f.frames n (frame_at f.frames f.active).level f.active (omega (arith, low, inside, h))

pub none_at : (f : Standing) (n : ℕ) → IsStanding f → length f.frames ≤ n → frame_of_level f.frames f.active (at n) ≡ None
none_at f n stands h =
    let inside = stands.sound.active in
    none_so_high f.frames n (frame_at f.frames f.active).level f.active stands.levels stands.sound.callers (omega (arith, inside, h))
