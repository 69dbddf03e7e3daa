-- Turn after turn.
use Rattle.std.proofs.Common.{◌≡◌, inl, ℕ, Bool, ◌^◌, ◌≤◌, ◌<◌, List, [], Result, Ok, Err, refl, sym, ap, ◌∙◌, subst, arith}
use Rattle.tcl_chars.specs.declared.numbers.Dialect.{Dialect}
use Rattle.tcl_pages.specs.Texts.{Text}
use Rattle.tcl_meaning.specs.Agreement.{IsPart}
use Rattle.tcl_meaning.specs.Beginnings.{OutputsBegin}
use Rattle.tcl_meaning.specs.Completions.{Completion, nothing}
use Rattle.tcl_meaning.specs.Effects.{Got}
use Rattle.tcl_meaning.specs.Script.{Run, most_depth}
use Rattle.tcl_meaning.specs.State.{State}
use Rattle.tcl_meaning.specs.Tasks.{Script}
use Rattle.tcl_meaning.proofs.Onward.{outputs_trans}
use Rattle.tcl_code.specs.Machine.{first_spot}
use Rattle.tcl_code.specs.Means.{Means}
use Rattle.tcl_vm.specs.Engines.{Views, BeginsAs, stops_io, is_io}
use Rattle.tcl_vm.specs.Fitting.{FitsHere}
use Rattle.tcl_vm.specs.Unwinding.{Above, Unwinds}
use Rattle.tcl_vm.proofs.Unwinding.{frames_as}
use Rattle.tcl_vm.specs.Machines.{Kept, Held, Halts, Pause, first_of, seen, Begins, begun_at, Stops, Makes, Ends, Follows}
use Rattle.tcl_code.specs.Instructions.{Instruction}
use Rattle.tcl_vm.specs.Standing.{Running, Comes}
use Rattle.tcl_vm.specs.Turns.{Next, Config, Stands, Fits, Kind, Onward, Later, Over}
use Rattle.tcl_vm.specs.declared.engine.Stop.{Stop}
use Rattle.tcl_vm.specs.declared.engine.Stop.TheVariants as stop
use Rattle.tcl_vm.specs.declared.machine.Machine.{Machine as RealMachine}
use Rattle.tcl_vm.specs.declared.machine.Made.{Made}
use Rattle.tcl_vm.proofs.Forward.{onward, outputs_same}
use Rattle.tcl_vm.proofs.Returning.{part_of}
use Rattle.tcl_vm.proofs.Answering.{comes_by, begun_fits}

onward_trans : (s t u : State) → Onward s t → Onward t u → Onward s u
onward_trans s t u h k = record { spends = let a = h.spends in let b = k.spends in omega arith; adds = outputs_trans h.adds k.adds }

pub onward_same : (s t : State) → t ≡ s → Onward s t
onward_same s t e = record { spends = let u = ap (λ x. x.units) e in omega arith; adds = subst (OutputsBegin s.channels) (sym (ap (λ x. x.channels) e)) (outputs_same s.channels) }

-- what some turns have kept
pub record Keeps (dialect : Dialect) (c d : Config) : Type 0 where
  pub stands : (r : Got Completion) → Stands dialect c r → Stands dialect d r
  pub later : Later dialect c d
  pub fits : Fits d
  pub unwinds : Unwinds d
  pub onward : Onward c.state d.state

later_then : {dialect : Dialect} (c d e : Config) → Later dialect c d → Later dialect d e → Later dialect c e
later_then c d e h k = record { stands = λ b r x. k.stands b r (h.stands b r x) }

module _ (dialect : Dialect) where
  pub keeps_first : (c : Config) → Fits c → Unwinds c → Keeps dialect c c
  keeps_first c f u = record { stands = λ r h. h; later = record { stands = λ b r h. h }; fits = f; unwinds = u; onward = onward_same c.state c.state refl }

  pub keeps_turned : (k : Kind) (c d e : Config) → Keeps dialect c d → Kept dialect k d e → Keeps dialect c e
  keeps_turned k c d e h t = record { stands = λ r x. t.turned.stands r (h.stands r x); later = later_then c d e h.later t.later; fits = t.turned.fits h.fits; unwinds = t.unwinds h.unwinds; onward = onward_trans c.state d.state e.state h.onward t.turned.onward }

  pub keeps_over : (c d : Config) (x : Completion) (t : State) → Keeps dialect c d → Over dialect d x t → Over dialect c x t
  keeps_over c d x t h o = record { agrees = λ r y. o.agrees r (h.stands r y); onward = onward_trans c.state d.state t h.onward o.onward }

  pub keeps_stops : (c d : Config) (e : Stop) (t : State) → Keeps dialect c d → Stops dialect e d t → Stops dialect e c t
  keeps_stops c d stop.Budget t h o = absurd o
  keeps_stops c d (stop.Exit n) t h o = record { agrees = λ r y. o.agrees r (h.stands r y); onward = onward_trans c.state d.state t h.onward o.onward }
  keeps_stops c d stop.Memory t h o = record { part = λ r y. o.part r (h.stands r y); onward = onward_trans c.state d.state t h.onward o.onward }
  keeps_stops c d stop.Io t h o = record { part = λ r y. o.part r (h.stands r y); onward = onward_trans c.state d.state t h.onward o.onward }

  -- a unit is wanting
  pub keeps_held : (c d e : Config) → Keeps dialect c d → Held dialect d e → Halts dialect c e
  keeps_held c d e h o = record {
    pauses = record {
      paused = record { agrees = λ r y. o.pauses.paused.agrees r (h.stands r y); onward = onward_trans c.state d.state e.state h.onward o.pauses.paused.onward };
      later = later_then c d e h.later o.pauses.later;
      spent = o.pauses.spent;
    };
    fits = o.fits h.fits;
    unwinds = o.unwinds h.unwinds;
  }

  ends_stops : (e : Stop) (c d : Config) → Stops dialect e c d.state → Ends dialect (Err e) c d
  ends_stops stop.Budget c d h = absurd h
  ends_stops (stop.Exit n) c d h = h
  ends_stops stop.Memory c d h = h
  ends_stops stop.Io c d h = h

  pub ends_err : (x : Result Completion Stop) (e : Stop) (c d : Config) → x ≡ Err e → Stops dialect e c d.state → Ends dialect x c d
  ends_err x e c d q h = subst (λ y. Ends dialect y c d) (sym q) (ends_stops e c d h)

  pub made_as : {A U S O L : Type 0} (views : Views A U S O L) (x y : Made S O L) (c : Config) (m : RealMachine A U O) (s : State) → x ≡ y → Makes dialect views (Ok x) c m s → Makes dialect views (Ok y) c m s
  made_as views x y c m s e h = subst (λ z. Makes dialect views (Ok z) c m s) e h

  -- ---- a whole run

  pub begun_stands : (code : List Instruction) (text : Text) (d : ℕ) (s : State) → Means dialect code text → d ≤ most_depth → Stands dialect (begun_at code d s) (Run dialect (Script d nothing text) s)
  begun_stands code text d s means le = record { either = inl (record { mid = Run dialect (Script d nothing text) s; runs = comes_by dialect code d s means le; returns = refl }) }

  module _ (text : Text) (d : ℕ) (c : Config) (b : Begins dialect text d c) (le : d ≤ most_depth) where
    pub begins_fits : Fits c
    begins_fits = subst Fits (sym b.at_start) (record { by = (begun_fits b.code d b.means.valid le, tt) })

    pub begins_unwinds : Unwinds c
    begins_unwinds = subst Unwinds (sym b.at_start) (record { base = c.state; above = frames_as c.state c.state refl })

    pub begins_stands : Stands dialect c (Run dialect (Script d nothing text) c.state)
    begins_stands = subst (λ x. Stands dialect x (Run dialect (Script d nothing text) c.state)) (sym b.at_start) (begun_stands b.code text d c.state b.means le)

  pub ends_follow : (x : Result Completion Stop) (c d : Config) (got : Got Completion) → Stands dialect c got → Ends dialect x c d → Follows x got d.state
  ends_follow (Ok e) c d got h k = k.agrees got h
  ends_follow (Err stop.Budget) c d got h k = k.pauses.paused.agrees got h
  ends_follow (Err (stop.Exit n)) c d got h k = k.agrees got h
  ends_follow (Err stop.Memory) c d got h k = k.part got h
  ends_follow (Err stop.Io) c d got h k = k.part got h

  pub ends_onward : (x : Result Completion Stop) (c d : Config) → Ends dialect x c d → Onward c.state d.state
  ends_onward (Ok e) c d k = k.onward
  ends_onward (Err stop.Budget) c d k = k.pauses.paused.onward
  ends_onward (Err (stop.Exit n)) c d k = k.onward
  ends_onward (Err stop.Memory) c d k = k.onward
  ends_onward (Err stop.Io) c d k = k.onward

  pub run_follows : (x : Result Completion Stop) (text : Text) (d : ℕ) (c e : Config) (s : State) → Begins dialect text d c → d ≤ most_depth → c.state ≡ s → Ends dialect x c e → Follows x (Run dialect (Script d nothing text) s) e.state
  run_follows x text d c e s b le same h = subst (λ y. Follows x (Run dialect (Script d nothing text) y) e.state) same (ends_follow x c e (Run dialect (Script d nothing text) c.state) (begins_stands text d c b le) h)

  pub refused_follows : (x : Result Completion Stop) (d : ℕ) (text : Text) (s t : State) → x ≡ Err stop.Memory → t ≡ s → Follows x (Run dialect (Script d nothing text) s) t
  refused_follows x d text s t q e =
      subst (λ y. Follows y (Run dialect (Script d nothing text) s) t) (sym q)
      (subst (λ c. IsPart c (Run dialect (Script d nothing text) s)) (sym (ap (λ y. y.channels) e)) (part_of dialect s.channels (Run dialect (Script d nothing text) s) (onward dialect (Script d nothing text) s).adds))

  -- a machine that begins
  pub begins_by : {A U S O L : Type 0} (views : Views A U S O L) (p : Pause A U S O L) (a : A) (text : Text) (d : ℕ) (s : State) → p ≡ first_of a → BeginsAs (Means dialect) text d (views.running a) → Begins dialect text d (seen views p s)
  begins_by views p a text d s first b =
      subst (λ q. Begins dialect text d (seen views q s)) (sym first) (record {
        code = (views.running a).code;
        means = b.is_meant;
        at_start = ap (λ q. record { turn = Next; machine = record { current = record { code = (views.running a).code; spot = q }; callers = [] }; paid = 0; state = s }) b.at_start;
      })

-- what a call leaves that says why there is no completion
pub stops_as : {X A : Type 0} (leaves : Bool → X → X → Type 0) (r : Result A Stop) (e : Stop) (a b : X) → r ≡ Err e → leaves (stops_io e) a b → leaves (is_io r) a b
stops_as leaves r e a b is h = subst (λ x. leaves (is_io x) a b) (sym is) h
