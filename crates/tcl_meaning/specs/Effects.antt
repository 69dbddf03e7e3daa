-- Programs over a few effects, and what they come to.
use Rattle.std.specs.Prelude.{ℕ, zero, suc, Bool, ◌||◌, length, Option, Some, None, encode_utf8_all}
use Rattle.tcl_pages.specs.Texts.{Text}
use Rattle.tcl_meaning.specs.declared.refusal.LinkRefusal.{LinkRefusal}
use Rattle.tcl_meaning.specs.Completions.{Completion}
use Rattle.tcl_meaning.specs.Frames.{Variables, Level, frame_of_level}
use Rattle.tcl_meaning.specs.Input.{Want, input_taken, left, meets_end}
use Rattle.tcl_meaning.specs.Links.{link}
use Rattle.tcl_meaning.specs.State.{Store, with_active, with_call, with_frames, Change, changed, Output, Channels, with_output, with_input, State, with_store, with_channels, with_units, Remains, remains}

-- The frame in which a script is run: the active one; the one of a level; or a new one that the active one calls, with these
-- variables, which is gone when the script has ended.
pub data Scope : Type 0 where
  Here : Scope
  At : Level → Scope
  Within : Variables → Scope

-- A program: what it does, in order, and the value that it gives. It may run tasks of T.
pub data Prog (T A : Type 0) : Type 0 where
  Give : A → Prog T A
  -- what scripts keep is looked at, or changed
  Look : (Store → Prog T A) → Prog T A
  Make : Change → Prog T A → Prog T A
  -- the local name becomes a link to what the other one means at a level, or is refused
  Link : Level → (other local : Text) → (Option LinkRefusal → Prog T A) → Prog T A
  -- a text goes to an output
  Write : Output → Text → Prog T A → Prog T A
  -- a text is taken from the input; has a call met its end
  Take : Want → (Text → Prog T A) → Prog T A
  HasEnded : (Bool → Prog T A) → Prog T A
  -- the run is over, with this status: exit(n)
  Exit : ℕ → Prog T A
  -- a task is run in a frame
  Call : Scope → T → (Completion → Prog T A) → Prog T A

-- a program that runs nothing
abbrev pub Plain : Type 0 → Type 0
Plain A = Prog ⊥ A

infixl 10 ◌>>=◌
abbrev pub ◌>>=◌ : {T A B : Type 0} → Prog T A → (A → Prog T B) → Prog T B
Give a >>= f = f a
Look g >>= f = Look (λ s. g s >>= f)
Make ch p >>= f = Make ch (p >>= f)
Link level other local g >>= f = Link level other local (λ r. g r >>= f)
Write o t p >>= f = Write o t (p >>= f)
Take want g >>= f = Take want (λ t. g t >>= f)
HasEnded g >>= f = HasEnded (λ b. g b >>= f)
Exit n >>= f = Exit n
Call scope task g >>= f = Call scope task (λ c. g c >>= f)

-- a plain program, among others
abbrev pub plainly : {T A : Type 0} → Plain A → Prog T A
plainly (Give a) = Give a
plainly (Look g) = Look (λ s. plainly (g s))
plainly (Make ch p) = Make ch (plainly p)
plainly (Link level other local g) = Link level other local (λ r. plainly (g r))
plainly (Write o t p) = Write o t (plainly p)
plainly (Take want g) = Take want (λ t. plainly (g t))
plainly (HasEnded g) = HasEnded (λ b. plainly (g b))
plainly (Exit n) = Exit n
plainly (Call scope task g) = absurd task

-- ---- what programs come to

-- A value and a state; or what remains of a run in which a unit was wanting, or which `exit` ended. Where a script asks
-- for input of a device that doesn't tell it, only what was put out so far is known.
pub data Got (A : Type 0) : Type 0 where
  Gives : A → State → Got A
  Broke : Remains → Got A
  Exits : (status : ℕ) → Remains → Got A
  Untold : Channels → Got A

abbrev pub on_got : {A B : Type 0} → Got A → (A → State → Got B) → Got B
on_got (Gives a s) f = f a s
on_got (Broke r) f = Broke r
on_got (Exits n r) f = Exits n r
on_got (Untold c) f = Untold c

abbrev pub made : Change → State → State
made ch s = with_store (changed ch s.store) s

abbrev pub linked : Level → Text → Text → State → State
linked level other local s = with_store (link s.store level other local).1 s

abbrev pub wrote : Output → Text → State → State
wrote o t s = with_channels (with_output o (encode_utf8_all t) s.channels) s

-- the state once a text was taken from the characters cs of the input
abbrev pub took : Want → Text → State → State
took want cs s = with_channels (with_input (left want cs) (s.channels.met_end || meets_end want cs) s.channels) s

abbrev pub take_from : {A : Type 0} → Want → Option Text → State → (Text → State → Got A) → Got A
take_from want None s f = Untold s.channels
take_from want (Some cs) s f = f (input_taken want cs) (took want cs s)

-- ---- frames

abbrev pub or_active : Option ℕ → ℕ → ℕ
or_active None active = active
or_active (Some i) active = i

-- The state in which a task of this scope is run. (A page asks for a level only where there is one.)
abbrev pub entered : Scope → State → State
entered Here s = s
entered (At level) s = with_store (with_active (or_active (frame_of_level s.store.frames s.store.active level) s.store.active) s.store) s
entered (Within vs) s = with_store (with_call vs s.store) s

-- The state behind it: the active frame is again the one that it was, and a new frame is gone.
abbrev pub returned : Scope → State → State → State
returned Here before s = s
returned (At level) before s = with_store (with_active before.store.active s.store) s
returned (Within vs) before s = with_store (with_active before.store.active (with_frames (length before.store.frames) s.store)) s

module _ {T : Type 0} (run : T → State → Got Completion) where
  abbrev pub exec : {A : Type 0} → Prog T A → State → Got A
  exec (Give a) s = Gives a s
  exec (Look f) s = exec (f s.store) s
  exec (Make ch p) s = exec p (made ch s)
  exec (Link level other local f) s = exec (f (link s.store level other local).0) (linked level other local s)
  exec (Write o t p) s = exec p (wrote o t s)
  exec (Take want f) s = take_from want s.channels.input s (λ t after. exec (f t) after)
  exec (HasEnded f) s = exec (f s.channels.met_end) s
  exec (Exit n) s = Exits n (remains s)
  exec (Call scope task f) s = on_got (run task (entered scope s)) (λ c after. exec (f c) (returned scope s after))

-- what a plain program comes to
abbrev pub nothing_runs : ⊥ → State → Got Completion
nothing_runs task s = absurd task

abbrev pub does : {A : Type 0} → Plain A → State → Got A
does p s = exec nothing_runs p s

-- ---- tasks and units

-- A task is over at once, or costs a unit and then runs a program.
pub data Plan (T : Type 0) : Type 0 where
  Now : Completion → Plan T
  Costs : Prog T Completion → Plan T

abbrev pub paid : {T : Type 0} → (T → State → Got Completion) → Prog T Completion → State → ℕ → Got Completion
paid run p s zero = Broke (remains s)
paid run p s (suc n) = exec run p (with_units n s)

abbrev pub start : {T : Type 0} → (T → State → Got Completion) → Plan T → State → Got Completion
start run (Now c) s = Gives c s
start run (Costs p) s = paid run p s s.units

-- Each task of a program has a unit less to spend: so as many levels as units are enough.
module _ {T : Type 0} (plan : T → Plan T) where
  abbrev pub level : ℕ → T → State → Got Completion
  level zero task s = Broke (remains s)
  level (suc k) task s = start (level k) (plan task) s

  -- what a task comes to
  unfoldable pub outcome : T → State → Got Completion
  outcome task s = level (suc s.units) task s
