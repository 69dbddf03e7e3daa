-- A run in slices comes to what a run in one comes to.
use Rattle.std.proofs.Common.{◌≡◌, ◌≢◌, ℕ, ◌<◌, ◌-◌, ◌+◌, List, [], ◌∷◌, ◌++◌, Result, Ok, Err, refl, sym, ap, ◌∙◌, subst, arith, inl, inr, ⊎_elim}
use Rattle.tcl_chars.specs.declared.numbers.Dialect.{Dialect}
use Rattle.tcl_pages.specs.Texts.{Text}
use Rattle.tcl_frames.specs.Standing.{Standing}
use Rattle.tcl_meaning.specs.Agreement.{Agrees, IsPart}
use Rattle.tcl_meaning.specs.Beginnings.{channels_of, OutputsBegin, more, Longer}
use Rattle.tcl_meaning.specs.Completions.{Completion, nothing, top}
use Rattle.tcl_meaning.specs.Effects.{Got, Gives, Broke, Exits, Untold}
use Rattle.tcl_meaning.specs.Frames.{frame_at}
use Rattle.tcl_meaning.specs.Run.{run_script}
use Rattle.tcl_meaning.specs.Script.{Run, plan}
use Rattle.tcl_meaning.specs.State.{Channels, State, with_units, remains}
use Rattle.tcl_meaning.specs.Tasks.{Script}
use Rattle.tcl_meaning.proofs.Longer.{outcome_longer}
use Rattle.tcl_meaning.proofs.Onward.{outputs_trans}
use Rattle.tcl_steps.specs.Comes.{state_of}
use Rattle.tcl_vm.specs.Machines.{Begins, Ends, Follows, Halts}
use Rattle.tcl_vm.specs.Parts.{given, total, PausesIn}
use Rattle.tcl_vm.specs.Turns.{Config, Pauses, Stands}
use Rattle.tcl_vm.specs.declared.engine.Stop.{Stop}
use Rattle.tcl_vm.specs.declared.engine.Stop.TheVariants as stop
use Rattle.tcl_vm.proofs.Adding.{parts_on}
use Rattle.tcl_vm.proofs.Going.{begun_stands, ends_follow}
use Rattle.tcl_interp.specs.Interp.{Shows, standing_at}
use Rattle.tcl_interp.specs.Outcome.{IsOutcomeOf, Ends as HostEnds, more_left, outcome_fails, outcome_is_io}
use Rattle.tcl_interp.specs.Pausing.{RunShows, Starts, PartEnds, machine_at}
use Rattle.tcl_interp.specs.Slices.{InSlices}
use Rattle.tcl_interp.specs.declared.host.Outcome.{Outcome}
use Rattle.tcl_interp.specs.declared.host.Outcome.TheVariants as outcome
use Rattle.tcl_interp.proofs.Ending.{run_ends}
use Rattle.tcl_interp.proofs.Parts.{part_made}

-- ---- one part more

module _ (dialect : Dialect) where
  pauses_then : (ns : List ℕ) (n : ℕ) (c d m : Config) → PausesIn dialect ns c d → Pauses dialect (given n d) m → PausesIn dialect (ns ++ n ∷ []) c m
  pauses_then [] n c d m e p = (m, subst (λ x. Pauses dialect (given n x) m) e p, refl)
  pauses_then (k ∷ ns) n c d m h p = (h.0, h.1, pauses_then ns n h.0 d m h.2 p)

total_then : (ns : List ℕ) (n : ℕ) → total (ns ++ n ∷ []) ≡ total ns + n
total_then [] n = omega arith
total_then (k ∷ ns) n = let e = total_then ns n in omega arith

pub slices_then : (dialect : Dialect) (c d m : Config) (budget rest rest' slice : ℕ) → rest' + slice ≡ rest → InSlices dialect c d budget rest → Pauses dialect (given slice d) m → InSlices dialect c m budget rest'
slices_then dialect c d m budget rest rest' slice e h p = record {
  parts = h.parts ++ slice ∷ [];
  pauses = pauses_then dialect h.parts slice c d m h.pauses p;
  adds = let t = total_then h.parts slice in let a = h.adds in omega arith;
}

-- ---- units that were not handed out

begins_part : (c : Channels) (t : Channels) (got : Got Completion) → OutputsBegin c t → OutputsBegin t (channels_of got) → IsPart c got
begins_part c t (Gives a s) h k = outputs_trans h k
begins_part c t (Broke r) h k = outputs_trans h k
begins_part c t (Exits n r) h k = outputs_trans h k
begins_part c t (Untold d) h k = inl (outputs_trans h k)

module _ (b : ℕ) where
  abbrev with_more : Got Completion → Got Completion
  with_more (Gives a s) = Gives a (more b s)
  with_more (Broke r) = Broke r
  with_more (Exits n r) = Exits n r
  with_more (Untold c) = Untold c

  gives_longer : (got got' : Got Completion) (e : Completion) (t : State) → Longer b got got' → Agrees got (Gives e t) → Agrees got' (Gives e (more b t))
  gives_longer (Gives a s) got' e t l h = subst (λ x. Agrees x (Gives e (more b t))) (sym l) (ap with_more h)
  gives_longer (Broke r) got' e t l h = absurd cc
  gives_longer (Exits n r) got' e t l h = absurd cc
  gives_longer (Untold c) got' e t l h = subst (λ x. Agrees x (Gives e (more b t))) (sym l) h

  exits_longer : (got got' : Got Completion) (n : ℕ) (t : State) → Longer b got got' → Agrees got (Exits n (remains t)) → Agrees got' (Exits n (remains t))
  exits_longer (Gives a s) got' n t l h = absurd cc
  exits_longer (Broke r) got' n t l h = absurd cc
  exits_longer (Exits k r) got' n t l h = subst (λ x. Agrees x (Exits n (remains t))) (sym l) h
  exits_longer (Untold c) got' n t l h = subst (λ x. Agrees x (Exits n (remains t))) (sym l) h

  part_longer : (got got' : Got Completion) (c : Channels) → Longer b got got' → IsPart c got → IsPart c got'
  part_longer (Gives a s) got' c l h = subst (IsPart c) (sym l) h
  part_longer (Broke r) got' c l h = begins_part c r.channels got' h l
  part_longer (Exits n r) got' c l h = subst (IsPart c) (sym l) h
  part_longer (Untold d) got' c l h = subst (IsPart c) (sym l) h

  follows_longer : (x : Result Completion Stop) (got got' : Got Completion) (t : State) → x ≢ Err stop.Budget → Longer b got got' → Follows x got t → Follows x got' (more b t)
  follows_longer (Ok e) got got' t paused l h = gives_longer got got' e t l h
  follows_longer (Err stop.Budget) got got' t paused l h = absurd (paused refl)
  follows_longer (Err (stop.Exit n)) got got' t paused l h = exits_longer got got' n t l h
  follows_longer (Err stop.Memory) got got' t paused l h = part_longer got got' t.channels l h
  follows_longer (Err stop.Io) got got' t paused l h = part_longer got got' t.channels l h

  more_told : (x : Result Completion Stop) (o : Outcome) (n : ℕ) → IsOutcomeOf o x n → IsOutcomeOf (more_left b o) x (n + b)
  more_told (Ok e) (outcome.Done code result options left) n h = (h.0, h.1, h.2, ap (λ k. k + b) h.3)
  more_told (Ok e) outcome.Memory n h = tt
  more_told (Ok e) outcome.Budget n h = absurd h
  more_told (Ok e) (outcome.Exit status) n h = absurd h
  more_told (Ok e) outcome.Io n h = absurd h
  more_told (Ok e) outcome.Failed n h = absurd h
  more_told (Ok e) outcome.Over n h = absurd h
  more_told (Err stop.Budget) o n h = ap (more_left b) h
  more_told (Err (stop.Exit k)) o n h = ap (more_left b) h
  more_told (Err stop.Memory) o n h = ap (more_left b) h
  more_told (Err stop.Io) o n h = ap (more_left b) h

not_paused : (x : Result Completion Stop) (o : Outcome) (n : ℕ) → o ≢ outcome.Budget → IsOutcomeOf o x n → x ≢ Err stop.Budget
not_paused (Ok e) o n goes is = λ p. absurd cc
not_paused (Err stop.Budget) o n goes is = λ p. goes is
not_paused (Err (stop.Exit k)) o n goes is = λ p. absurd cc
not_paused (Err stop.Memory) o n goes is = λ p. absurd cc
not_paused (Err stop.Io) o n goes is = λ p. absurd cc

-- ---- the last part

module _ (dialect : Dialect) (text : Text) where
  abbrev means_at : State → Got Completion
  means_at s = Run dialect (Script 1 nothing text) s

  follows_parts : (parts : List ℕ) (last : ℕ) (c d e : Config) (x : Result Completion Stop) → Begins dialect text 1 c → PausesIn dialect parts c d → Ends dialect x (given last d) e → Follows x (means_at (with_units (total parts + last) c.state)) e.state
  follows_parts parts last c d e x b p h =
      let n = total parts + last in
      let r = means_at (with_units n c.state) in
      ends_follow dialect x (given last d) e r (parts_on dialect parts last c d r p (subst (λ y. Stands dialect y r) (sym (ap (given n) b.at_start)) (begun_stands dialect b.code text 1 (with_units n c.state) b.means (omega arith)))) h

-- where all is handed out
pub whole_follows : (dialect : Dialect) (text : Text) (budget last : ℕ) (c d e : Config) (x : Result Completion Stop) → Begins dialect text 1 c → InSlices dialect c d budget last → Ends dialect x (given last d) e → Follows x (means_at dialect text (with_units budget c.state)) e.state
whole_follows dialect text budget last c d e x b s h = subst (λ n. Follows x (means_at dialect text (with_units n c.state)) e.state) s.adds (follows_parts dialect text s.parts last c d e x b s.pauses h)

-- where some is left, and the part hasn't paused
pub early_follows : (dialect : Dialect) (text : Text) (budget rest slice left : ℕ) (c d e : Config) (x : Result Completion Stop) → left + slice ≡ rest → Begins dialect text 1 c → InSlices dialect c d budget rest → x ≢ Err stop.Budget → Ends dialect x (given slice d) e
    → Follows x (means_at dialect text (with_units budget c.state)) (more left e.state)
early_follows dialect text budget rest slice left c d e x same b s paused h =
    let n = total s.parts + slice in
    let all : n + left ≡ budget = let a = s.adds in omega arith in
    let got = means_at dialect text (with_units n c.state) in
    let longer = outcome_longer (plan dialect) left (Script 1 nothing text) (with_units n c.state) in
    subst (λ k. Follows x (means_at dialect text (with_units k c.state)) (more left e.state)) all (follows_longer left x got (means_at dialect text (with_units (n + left) c.state)) e.state paused longer (follows_parts dialect text s.parts slice c d e x b s.pauses h))

-- ---- what a host is told of it

module _ (interp : Shows) (text : Text) (before : RunShows) (channels : Channels) (starts : Starts interp before text) (after : RunShows) (channels' : Channels) (units : ℕ) where
  begun_over : Begins before.dialect text 1 (machine_at before channels 0)
  begun_over = starts.begins channels 0

  -- by what the script means with the whole budget
  told : (budget left : ℕ) (x : Result Completion Stop) (o : Outcome)
      → Follows x (Run before.dialect (Script 1 nothing text) (state_of before.commands channels budget before.frames)) (state_of after.commands channels' left after.frames) → IsOutcomeOf o x left
      → HostEnds o (run_script interp.dialect text (record { store = record { frames = interp.globals ∷ []; active = 0; commands = interp.commands }; channels = channels; units = budget }))
      (record { globals = frame_at after.frames.frames 0; commands = after.commands; channels = channels' })
  told budget left x o h is =
      run_ends before.dialect interp before.frames before.commands channels budget text after.frames after.commands channels' left x o starts.dialect
      (starts.frames ∙ ap (λ (f : Standing). standing_at (frame_at f.frames 0)) (sym starts.frames)) (ap (λ (f : Standing). frame_at f.frames 0) starts.frames) starts.commands h is

  pub last_told : (d : RunShows) (channels'' : Channels) (budget rest : ℕ) (o : Outcome) → InSlices before.dialect (machine_at before channels 0) (machine_at d channels'' 0) budget rest
      → PartEnds before.dialect o (machine_at d channels'' rest) (machine_at after channels' units)
      → HostEnds o (run_script interp.dialect text (record { store = record { frames = interp.globals ∷ []; active = 0; commands = interp.commands }; channels = channels; units = budget }))
      (record { globals = frame_at after.frames.frames 0; commands = after.commands; channels = channels' })
  last_told d channels'' budget rest o s h =
      let m = part_made before.dialect o (machine_at d channels'' rest) (machine_at after channels' units) h in
      told budget units m.0 o (whole_follows before.dialect text budget rest (machine_at before channels 0) (machine_at d channels'' 0) (machine_at after channels' units) m.0 begun_over s m.1) m.2

  pub early_told : (d : RunShows) (channels'' : Channels) (budget rest slice left : ℕ) (o : Outcome) → left + slice ≡ rest → o ≢ outcome.Budget
      → InSlices before.dialect (machine_at before channels 0) (machine_at d channels'' 0) budget rest
      → PartEnds before.dialect o (machine_at d channels'' slice) (machine_at after channels' units)
      → HostEnds (more_left left o) (run_script interp.dialect text (record { store = record { frames = interp.globals ∷ []; active = 0; commands = interp.commands }; channels = channels; units = budget }))
      (record { globals = frame_at after.frames.frames 0; commands = after.commands; channels = channels' })
  early_told d channels'' budget rest slice left o same goes s h =
      let m = part_made before.dialect o (machine_at d channels'' slice) (machine_at after channels' units) h in
      told budget (units + left) m.0 (more_left left o) (early_follows before.dialect text budget rest slice left (machine_at before channels 0) (machine_at d channels'' 0) (machine_at after channels' units) m.0 same begun_over s (not_paused m.0 o units goes m.2) m.1)
      (more_told left m.0 o units m.2)

-- ---- a slice

-- a slice that ended where a unit was wanting
pub slice_paused : (dialect whole : Dialect) (first : Config) (d : RunShows) (channels : Channels) (after : RunShows) (channels' : Channels) (units budget rest slice : ℕ) (o : Outcome) → dialect ≡ whole → o ≡ outcome.Budget → slice < rest
    → InSlices whole first (machine_at d channels 0) budget rest → PartEnds dialect o (machine_at d channels slice) (machine_at after channels' units) → InSlices whole first (machine_at after channels' 0) budget (rest - slice)
slice_paused dialect whole first d channels after channels' units budget rest slice o same is less s h =
    let halts : Halts whole (machine_at d channels slice) (machine_at after channels' units) = subst (λ x. Halts x (machine_at d channels slice) (machine_at after channels' units)) same (subst (λ x. PartEnds dialect x (machine_at d channels slice) (machine_at after channels' units)) is h) in
    slices_then whole first (machine_at d channels 0) (machine_at after channels' 0) budget rest (rest - slice) slice (omega (arith, less)) s
    (subst (λ n. Pauses whole (machine_at d channels slice) (machine_at after channels' n)) halts.pauses.spent halts.pauses)

-- more units are left of it, and nothing else
pub more_fails : (n : ℕ) (o : Outcome) → outcome_fails (more_left n o) ≡ outcome_fails o
more_fails n (outcome.Done code result options left) = refl
more_fails n outcome.Budget = refl
more_fails n (outcome.Exit status) = refl
more_fails n outcome.Memory = refl
more_fails n outcome.Io = refl
more_fails n outcome.Failed = refl
more_fails n outcome.Over = refl

pub more_is_io : (n : ℕ) (o : Outcome) → outcome_is_io (more_left n o) ≡ outcome_is_io o
more_is_io n (outcome.Done code result options left) = refl
more_is_io n outcome.Budget = refl
more_is_io n (outcome.Exit status) = refl
more_is_io n outcome.Memory = refl
more_is_io n outcome.Io = refl
more_is_io n outcome.Failed = refl
more_is_io n outcome.Over = refl
