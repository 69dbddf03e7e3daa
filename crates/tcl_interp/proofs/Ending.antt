-- What a host's script comes to, by what the machine made of it.
use Rattle.std.proofs.Common.{◌≡◌, ℕ, false, Result, Ok, Err, refl, sym, ap, subst, ◌∙◌, inl, inr}
use Rattle.tcl_chars.specs.declared.numbers.Dialect.{Dialect}
use Rattle.tcl_pages.specs.Texts.{Text}
use Rattle.tcl_frames.specs.Standing.{Standing, store_of}
use Rattle.tcl_meaning.specs.Agreement.{Agrees, IsPart}
use Rattle.tcl_meaning.specs.Beginnings.{channels_of, OutputsBegin, SameFrames, FramesStay}
use Rattle.tcl_meaning.specs.Completions.{Completion, nothing, top}
use Rattle.tcl_meaning.specs.Effects.{Got, Gives, Broke, Exits, Untold, on_got}
use Rattle.tcl_meaning.specs.Frames.{Frame, frame_at}
use Rattle.tcl_meaning.specs.Run.{run_script}
use Rattle.tcl_meaning.specs.Script.{Run, plan}
use Rattle.tcl_meaning.specs.State.{Commands, Channels, State, Remains}
use Rattle.tcl_meaning.specs.Tasks.{Script}
use Rattle.tcl_meaning.proofs.Frames.{outcome_stays}
use Rattle.tcl_meaning.proofs.Onward.{outputs_same}
use Rattle.tcl_meaning.proofs.Runs.{outcome_goes}
use Rattle.tcl_steps.specs.Comes.{state_of}
use Rattle.tcl_vm.specs.Machines.{Follows}
use Rattle.tcl_vm.specs.declared.engine.Stop.{Stop}
use Rattle.tcl_vm.specs.declared.engine.Stop.TheVariants as stop
use Rattle.tcl_interp.specs.Interp.{Shows, standing_at, IsAtTop, store_at, kept_by}
use Rattle.tcl_interp.specs.Outcome.{outcome_fails, IsOutcomeOf, state_left, Ends}
use Rattle.tcl_interp.specs.declared.host.Outcome.{Outcome}
use Rattle.tcl_interp.specs.declared.host.Outcome.TheVariants as outcome
use Rattle.tcl_interp.proofs.Standing.{stays_at_top}

-- a run, as a host is told of its end
abbrev topped : Got Completion → Got Completion
topped got = on_got got (λ c after. Gives (top c) after)

-- ---- what agrees is a part

pub agrees_part : {A : Type 0} (got real : Got A) → Agrees got real → IsPart (channels_of real) got
agrees_part (Gives a s) real h = subst (λ (r : Got _). OutputsBegin (channels_of real) (channels_of r)) (sym h) (outputs_same (channels_of real))
agrees_part (Broke x) real h = subst (λ (r : Got _). OutputsBegin (channels_of real) (channels_of r)) (sym h) (outputs_same (channels_of real))
agrees_part (Exits n x) real h = subst (λ (r : Got _). OutputsBegin (channels_of real) (channels_of r)) (sym h) (outputs_same (channels_of real))
agrees_part (Untold c) real h = inr h

topped_part : (c : Channels) (got : Got Completion) → IsPart c got → IsPart c (topped got)
topped_part c (Gives a s) h = h
topped_part c (Broke x) h = h
topped_part c (Exits n x) h = h
topped_part c (Untold d) h = h

begun : (c : Channels) (got : Got Completion) → OutputsBegin c (channels_of got) → IsPart c got
begun c (Gives a s) h = h
begun c (Broke x) h = h
begun c (Exits n x) h = h
begun c (Untold d) h = inl h

-- what was put out before a run is a part of what it puts out
pub begun_part : (d : Dialect) (script : Text) (s : State) → IsPart s.channels (run_script d script s)
begun_part d script s =
    let got = Run d (Script 1 nothing script) s in
    topped_part s.channels got (begun s.channels got (outcome_goes (plan d) (Script 1 nothing script) s).adds)

-- what was put out by a run that didn't fail
pub ends_part : (o : Outcome) (got : Got Completion) (r : Remains) → outcome_fails o ≡ false → Ends o got r → IsPart r.channels got
ends_part (outcome.Done code result options left) got r f h = agrees_part got (Gives h.completion (state_left r h.left)) h.agrees
ends_part outcome.Budget got r f h = agrees_part got (Broke r) h
ends_part (outcome.Exit status) got r f h = agrees_part got (Exits status r) h
ends_part outcome.Memory got r f h = h
ends_part outcome.Io got r f h = h
ends_part outcome.Failed got r f h = absurd h
ends_part outcome.Over got r f h = absurd h

-- ---- the end of a run

broke : (got : Got Completion) (r : Remains) → Agrees got (Broke r) → Agrees (topped got) (Broke r)
broke (Gives a s) r h = absurd cc
broke (Broke x) r h = ap topped h
broke (Exits n x) r h = absurd cc
broke (Untold c) r h = h

exited : (got : Got Completion) (n : ℕ) (r : Remains) → Agrees got (Exits n r) → Agrees (topped got) (Exits n r)
exited (Gives a s) n r h = absurd cc
exited (Broke x) n r h = absurd cc
exited (Exits m x) n r h = ap topped h
exited (Untold c) n r h = h

module _ (g : Frame) (cs : Commands) (f : Standing) (cs' : Commands) (c : Channels) (left : ℕ) where
  abbrev behind : Remains
  behind = record { globals = frame_at f.frames 0; commands = cs'; channels = c }

  gave : (got : Got Completion) (e : Completion) → FramesStay (store_at g cs) got → Agrees got (Gives e (state_of cs' c left f)) → Agrees (topped got) (Gives (top e) (state_left behind left))
  gave (Gives a s) e stay h =
      let same : SameFrames (store_at g cs) (store_of cs' f) = subst (FramesStay (store_at g cs)) h stay in
      ap topped h ∙ ap (λ (k : Standing). Gives (top e) (state_of cs' c left k)) (stays_at_top g cs cs' f same)
  gave (Broke x) e stay h = absurd cc
  gave (Exits n x) e stay h = absurd cc
  gave (Untold d) e stay h = h

  ends_by : (r : Result Completion Stop) (o : Outcome) (got : Got Completion) → FramesStay (store_at g cs) got → Follows r got (state_of cs' c left f) → IsOutcomeOf o r left → Ends o (topped got) behind
  ends_by (Ok e) (outcome.Done code result options units) got stay h is = record { completion = top e; left = left; agrees = gave got e stay h; tells = is }
  ends_by (Ok e) outcome.Memory got stay h is = topped_part c got (agrees_part got (Gives e (state_of cs' c left f)) h)
  ends_by (Ok e) outcome.Budget got stay h is = absurd is
  ends_by (Ok e) (outcome.Exit status) got stay h is = absurd is
  ends_by (Ok e) outcome.Io got stay h is = absurd is
  ends_by (Ok e) outcome.Failed got stay h is = absurd is
  ends_by (Ok e) outcome.Over got stay h is = absurd is
  ends_by (Err stop.Budget) o got stay h is = subst (λ x. Ends x (topped got) behind) (sym is) (broke got behind h)
  ends_by (Err (stop.Exit n)) o got stay h is = subst (λ x. Ends x (topped got) behind) (sym is) (exited got n behind h)
  ends_by (Err stop.Memory) o got stay h is = subst (λ x. Ends x (topped got) behind) (sym is) (topped_part c got h)
  ends_by (Err stop.Io) o got stay h is = subst (λ x. Ends x (topped got) behind) (sym is) (topped_part c got h)

-- An evaluation ends as the definition says, from what the interpreter shows.
pub run_ends : (dialect : Dialect) (shows : Shows) (frames : Standing) (table : Commands) (before : Channels) (budget : ℕ) (script : Text) (f : Standing) (cs : Commands) (c : Channels) (left : ℕ) (r : Result Completion Stop) (o : Outcome)
    → dialect ≡ shows.dialect → IsAtTop frames → frame_at frames.frames 0 ≡ shows.globals → table ≡ shows.commands
    → Follows r (Run dialect (Script 1 nothing script) (state_of table before budget frames)) (state_of cs c left f) → IsOutcomeOf o r left
    → Ends o (run_script shows.dialect script (record { store = kept_by shows; channels = before; units = budget })) (record { globals = frame_at f.frames 0; commands = cs; channels = c })
run_ends dialect shows frames table before budget script f cs c left r o numbers at_top globals commands h is =
    let s : State = record { store = kept_by shows; channels = before; units = budget } in
    let same : state_of table before budget frames ≡ s =
    ap (λ k. state_of table before budget k) at_top ∙ ap (λ g. state_of table before budget (standing_at g)) globals ∙ ap (λ t. state_of t before budget (standing_at shows.globals)) commands in
    let follows : Follows r (Run shows.dialect (Script 1 nothing script) s) (state_of cs c left f) =
    subst (λ d. Follows r (Run d (Script 1 nothing script) s) (state_of cs c left f)) numbers (subst (λ k. Follows r (Run dialect (Script 1 nothing script) k) (state_of cs c left f)) same h) in
    ends_by shows.globals shows.commands f cs c left r o (Run shows.dialect (Script 1 nothing script) s) (outcome_stays (plan shows.dialect) (Script 1 nothing script) s) follows is
