-- As many frames stand when a command has ended.
use Rattle.std.proofs.Common.{◌≡◌, length, false, sym, ap, ◌∙◌, subst, None}
use Rattle.std.specs.FinMap as map
use Rattle.tcl_frames.specs.Standing.{Standing}
use Rattle.tcl_meaning.specs.Beginnings.{FramesStay}
use Rattle.tcl_meaning.specs.Effects.{Plain, Gives, nothing_runs, does}
use Rattle.tcl_meaning.specs.State.{Channels, State}
use Rattle.tcl_meaning.proofs.Frames.{exec_stays}
use Rattle.tcl_steps.specs.Comes.{state_of, Comes}
use Rattle.tcl_meaning.proofs.Soundness.{length_calls}

nothing_leaves : (task : ⊥) (s : State) → FramesStay s.store (nothing_runs task s)
nothing_leaves task s = absurd task

-- a program that gives a value leaves as many frames
pub given_count : {A : Type 0} (p : Plain A) (s t : State) (a : A) → does p s ≡ Gives a t → length t.store.frames ≡ length s.store.frames
given_count p s t a e =
    let k = subst (λ r. FramesStay s.store r) e (exec_stays nothing_runs nothing_leaves p s) in
    sym (length_calls t.store.frames) ∙ ap (λ xs. length xs) k.stack ∙ length_calls s.store.frames

no_channels : Channels
no_channels = record { input = None; met_end = false; out = None; err = None }

pub comes_count : {A : Type 0} (p : Plain A) (f g : Standing) (a : A) → Comes p f a g → length g.frames ≡ length f.frames
comes_count p f g a comes = given_count p (state_of map.empty no_channels 0 f) (state_of map.empty no_channels 0 g) a (comes.same map.empty no_channels 0)
