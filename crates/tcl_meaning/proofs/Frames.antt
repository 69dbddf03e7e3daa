-- No program makes or loses a frame, or leaves another one active, whatever pages there are.
use Rattle.std.proofs.Common.{◌≡◌, ℕ, zero, suc, refl, ap, ◌∙◌, subst, List, [], ◌∷◌, ◌++◌, length, take, drop, Option, Some, None}
use Rattle.tcl_pages.specs.Texts.{Text}
use Rattle.tcl_meaning.specs.Completions.{Completion}
use Rattle.tcl_meaning.specs.Input.{Want, input_taken}
use Rattle.tcl_meaning.specs.Frames.{Frame, frame_at, set_frame, Level, frame_of_level}
use Rattle.tcl_meaning.specs.Links.{link, link_from, spot_in}
use Rattle.tcl_meaning.specs.Names.{divided_name}
use Rattle.tcl_meaning.specs.State.{Store, Change, set_variable, drop_variable, set_command, drop_command, changed, State}
use Rattle.tcl_meaning.specs.Effects.{Scope, Here, At, Within, Prog, Give, Look, Make, Link, Write, Take, HasEnded, Exit, Call, Got, Gives, Broke, Exits, Untold, on_got, made, linked, wrote, took, take_from, entered, returned, exec, Plan, Now, Costs, paid, start, level, outcome}
use Rattle.tcl_meaning.specs.Beginnings.{Called, call_of, calls, SameFrames, FramesStay}
use Rattle.tcl_meaning.proofs.Linking.{link_is}

same_frames : (s : Store) → SameFrames s s
same_frames s = record { stack = refl; active = refl }

trans_frames : {s t u : Store} → SameFrames s t → SameFrames t u → SameFrames s u
trans_frames p q = record { stack = q.stack ∙ p.stack; active = q.active ∙ p.active }

-- a frame is changed, but not how it was called
set_calls : (fs : List Frame) (i : ℕ) (g : Frame) → call_of g ≡ call_of (frame_at fs i) → calls (set_frame fs i g) ≡ calls fs
set_calls [] i g h = refl
set_calls (f ∷ fs) zero g h = ap (λ c. c ∷ calls fs) h
set_calls (f ∷ fs) (suc i) g h = ap (λ cs. call_of f ∷ cs) (set_calls fs i g h)

pub changed_frames : (ch : Change) (s : Store) → SameFrames s (changed ch s)
changed_frames (set_variable i n v) s = record { stack = set_calls s.frames i _ refl; active = refl }
changed_frames (drop_variable i n) s = record { stack = set_calls s.frames i _ refl; active = refl }
changed_frames (set_command n c) s = record { stack = refl; active = refl }
changed_frames (drop_command n) s = record { stack = refl; active = refl }

link_frames : (s : Store) (i : Option ℕ) (other local : Text) → SameFrames s (link_from s i other local).1
link_frames s None other local = same_frames s
link_frames s (Some i) other local =
    link_is (SameFrames s) s local (divided_name local) (spot_in s.frames i (divided_name other)) (same_frames s) (λ own. record { stack = set_calls s.frames s.active _ refl; active = refl })

pub linked_frames : (s : State) (level : Level) (other local : Text) → SameFrames s.store (linked level other local s).store
unfolding link
linked_frames s level other local = link_frames s.store (frame_of_level s.store.frames s.store.active level) other local

-- what stands in front of a new frame
abbrev head_or : {A : Type 0} → A → List A → A
head_or x [] = x
head_or x (y ∷ ys) = y

front_calls : (a l : List Frame) (x : Called) → calls l ≡ calls a ++ x ∷ [] → calls (take (length a) l) ≡ calls a
front_calls [] l x h = refl
front_calls (f ∷ fs) [] x h = absurd cc
front_calls (f ∷ fs) (g ∷ gs) x h =
    let rest : calls gs ≡ calls fs ++ x ∷ [] = ap (drop 1) h in
    let first : call_of g ≡ call_of f = ap (head_or x) h in
    ap (λ c. c ∷ calls (take (length fs) gs)) first ∙ ap (λ cs. call_of f ∷ cs) (front_calls fs gs x rest)

calls_append : (a b : List Frame) → calls (a ++ b) ≡ calls a ++ calls b
calls_append [] b = refl
calls_append (f ∷ fs) b = ap (λ cs. call_of f ∷ cs) (calls_append fs b)

pub returned_frames : (scope : Scope) (s t : State) → SameFrames (entered scope s).store t.store → SameFrames s.store (returned scope s t).store
returned_frames Here s t h = h
returned_frames (At level) s t h = record { stack = h.stack; active = refl }
returned_frames (Within vs) s t h = record { stack = front_calls s.store.frames t.store.frames _ (h.stack ∙ calls_append s.store.frames _); active = refl }

-- a way to run tasks that leaves the frames
abbrev pub Leaves : {T : Type 0} → (T → State → Got Completion) → Type 0
Leaves {T} run = (task : T) (s : State) → FramesStay s.store (run task s)

on_got_stays : {A B : Type 0} (s : Store) (r : Got A) (f : A → State → Got B) → ((a : A) (t : State) → r ≡ Gives a t → FramesStay s (f a t)) → FramesStay s (on_got r f)
on_got_stays s (Gives a t) f k = k a t refl
on_got_stays s (Broke x) f k = tt
on_got_stays s (Exits n x) f k = tt
on_got_stays s (Untold x) f k = tt

take_from_stays : {A : Type 0} (want : Want) (i : Option Text) (s : State) (f : Text → State → Got A) → ((t : Text) (u : State) → u.store ≡ s.store → FramesStay s.store (f t u)) → FramesStay s.store (take_from want i s f)
take_from_stays want None s f k = tt
take_from_stays want (Some cs) s f k = k (input_taken want cs) (took want cs s) refl

-- from frames that are the same
stays_from : {A : Type 0} (s t : Store) (r : Got A) → SameFrames s t → FramesStay t r → FramesStay s r
stays_from s t (Gives a u) h k = trans_frames h k
stays_from s t (Broke x) h k = tt
stays_from s t (Exits n x) h k = tt
stays_from s t (Untold x) h k = tt

module _ {T : Type 0} (run : T → State → Got Completion) (leaves : Leaves run) where
  pub exec_stays : {A : Type 0} (p : Prog T A) (s : State) → FramesStay s.store (exec run p s)
  exec_stays (Give a) s = same_frames s.store
  exec_stays (Look f) s = exec_stays (f s.store) s
  exec_stays (Make ch p) s = stays_from s.store (changed ch s.store) (exec run p (made ch s)) (changed_frames ch s.store) (exec_stays p (made ch s))
  exec_stays (Link level other local f) s =
      stays_from s.store (linked level other local s).store (exec run (f (link s.store level other local).0) (linked level other local s))
      (linked_frames s level other local) (exec_stays (f (link s.store level other local).0) (linked level other local s))
  exec_stays (Write o t p) s = exec_stays p (wrote o t s)
  exec_stays (Take want f) s = take_from_stays want s.channels.input s (λ t after. exec run (f t) after) (λ t u e. subst (λ x. FramesStay x (exec run (f t) u)) e (exec_stays (f t) u))
  exec_stays (HasEnded f) s = exec_stays (f s.channels.met_end) s
  exec_stays (Exit n) s = tt
  exec_stays (Call scope task f) s =
      on_got_stays s.store (run task (entered scope s)) (λ c after. exec run (f c) (returned scope s after))
      (λ c t e. stays_from s.store (returned scope s t).store (exec run (f c) (returned scope s t)) (returned_frames scope s t (subst (λ r. FramesStay (entered scope s).store r) e (leaves task (entered scope s)))) (exec_stays (f c) (returned scope s t)))

  paid_stays : (p : Prog T Completion) (s : State) (n : ℕ) → FramesStay s.store (paid run p s n)
  paid_stays p s zero = tt
  paid_stays p s (suc n) = exec_stays p (record s { units = n })

  start_stays : (p : Plan T) (s : State) → FramesStay s.store (start run p s)
  start_stays (Now c) s = same_frames s.store
  start_stays (Costs p) s = paid_stays p s s.units

module _ {T : Type 0} (plan : T → Plan T) where
  pub level_stays : (k : ℕ) → Leaves (level plan k)
  level_stays zero task s = tt
  level_stays (suc k) task s = start_stays (level plan k) (level_stays k) (plan task) s

  pub outcome_stays : Leaves (outcome plan)
  unfolding outcome
  outcome_stays task s = level_stays (suc s.units) task s
