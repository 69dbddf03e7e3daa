-- The global frame alone, before and after what scripts and hosts do.
use Rattle.std.proofs.Common.{◌≡◌, ℕ, ◌<◌, List, [], ◌∷◌, length, take, Result, Ok, Err, OnOk, OnErr, refl, sym, ap, subst, ◌∙◌, arith}
use Rattle.tcl_frames.specs.Standing.{Standing, store_of, applied}
use Rattle.tcl_frames.specs.Unwound.{unwound}
use Rattle.tcl_meaning.specs.Beginnings.{calls, SameFrames}
use Rattle.tcl_meaning.specs.Frames.{Frame, frame_at}
use Rattle.tcl_meaning.specs.State.{Commands, Store, Change, changed}
use Rattle.tcl_meaning.proofs.Frames.{changed_frames}
use Rattle.tcl_interp.specs.Interp.{IsAtTop, store_at}

one_frame : (fs : List Frame) (g : Frame) → calls fs ≡ calls (g ∷ []) → fs ≡ frame_at fs 0 ∷ []
one_frame [] g h = absurd cc
one_frame (f ∷ []) g h = refl
one_frame (f ∷ k ∷ fs) g h = absurd cc

-- where the frames are the same, the global one still stands alone
pub stays_at_top : (g : Frame) (cs cs' : Commands) (f : Standing) → SameFrames (store_at g cs) (store_of cs' f) → IsAtTop f
stays_at_top g cs cs' f same =
    ap (λ fs. record { frames = fs; active = f.active }) (one_frame f.frames g same.stack) ∙ ap (λ i. record { frames = frame_at f.frames 0 ∷ []; active = i }) same.active

-- ---- once a run is over

first_of : (fs : List Frame) → 0 < length fs → take 1 fs ≡ frame_at (take 1 fs) 0 ∷ []
first_of [] h = absurd (omega (arith, h))
first_of (f ∷ fs) h = refl

pub unwound_at_top : (f : Standing) (i : ℕ) → i < length f.frames → IsAtTop (unwound f)
unwound_at_top f i h = ap (λ fs. record { frames = fs; active = 0 }) (first_of f.frames (omega (arith, h)))

pub unwound_globals : (fs : List Frame) → frame_at (take 1 fs) 0 ≡ frame_at fs 0
unwound_globals [] = refl
unwound_globals (f ∷ fs) = refl

-- ---- once a variable is changed

applied_frames : {R : Type 0} (r : Result Change R) (s : Store) (cs : Commands) (f : Standing) → applied r s ≡ Ok (store_of cs f) → SameFrames s (store_of cs f)
applied_frames (Ok ch) s cs f h = let e : changed ch s ≡ store_of cs f = cc in subst (SameFrames s) e (changed_frames ch s)
applied_frames (Err e) s cs f h = absurd cc

applied_at_top : {R : Type 0} (r : Result Change R) (old new : Standing) (cs : Commands) → IsAtTop old → applied r (store_of cs old) ≡ Ok (store_of cs new) → IsAtTop new
applied_at_top r old new cs top h =
    let g = frame_at old.frames 0 in
    let e : store_of cs old ≡ store_at g cs = ap (store_of cs) top in
    stays_at_top g cs cs new (subst (λ s. SameFrames s (store_of cs new)) e (applied_frames r (store_of cs old) cs new h))

pub put_at_top : {A E R : Type 0} (r : Result A E) (ch : Result Change R) (old new : Standing) (cs : Commands) → IsAtTop old → OnOk r (applied ch (store_of cs old) ≡ Ok (store_of cs new)) → OnErr r (new ≡ old) → IsAtTop new
put_at_top (Ok x) ch old new cs top done same = applied_at_top ch old new cs top done
put_at_top (Err e) ch old new cs top done same = subst IsAtTop (sym same) top
