-- A part of a run: how it ends, and that the run can go on.
use Rattle.std.proofs.Common.{◌≡◌, ℕ, ◌≤◌, Result, Ok, Err, refl, sym, ap, subst, arith}
use Rattle.tcl_chars.specs.declared.numbers.Dialect.{Dialect}
use Rattle.tcl_frames.specs.Standing.{Standing}
use Rattle.tcl_meaning.specs.Beginnings.{OutputsBegin}
use Rattle.tcl_meaning.specs.Completions.{Completion}
use Rattle.tcl_meaning.specs.Effects.{Gives}
use Rattle.tcl_meaning.specs.State.{Commands, Channels}
use Rattle.tcl_pages.specs.Texts.{Text}
use Rattle.tcl_vm.specs.Machines.{Begins, Ends, Halts}
use Rattle.tcl_vm.specs.Turns.{Config, Over, Onward, BrokenOff}
use Rattle.tcl_vm.specs.declared.engine.Stop.{Stop}
use Rattle.tcl_vm.specs.declared.engine.Stop.TheVariants as stop
use Rattle.tcl_vm.proofs.Going.{begins_fits, begins_unwinds, ends_onward}
use Rattle.tcl_vm.proofs.Unwinding.{unwinds_same}
use Rattle.tcl_interp.specs.Outcome.{IsOutcomeOf, outcome_is_io, outcome_fails, units_left}
use Rattle.tcl_interp.specs.Pausing.{Machine, machine_over, CanGo, GoesOn, PartEnds, stage_after, stage_fails}
use Rattle.tcl_interp.specs.declared.host.Outcome.{Outcome}
use Rattle.tcl_interp.specs.declared.host.Outcome.TheVariants as outcome
use Rattle.tcl_interp.specs.declared.stage.Stage.{Stage}
use Rattle.tcl_interp.specs.declared.stage.Stage.TheVariants as stage
use Rattle.tcl_interp.proofs.Ending.{agrees_part}

module _ (dialect : Dialect) where
  broken_over : (c d : Config) (e : Completion) → Over dialect c e d.state → BrokenOff dialect c d.state
  broken_over c d e h = record { part = λ r x. agrees_part r (Gives e d.state) (h.agrees r x); onward = h.onward }

  -- ---- what the machine made of it

  pub part_ends : (r : Result Completion Stop) (o : Outcome) (c d : Config) → Ends dialect r c d → IsOutcomeOf o r d.state.units → PartEnds dialect o c d
  part_ends (Ok e) (outcome.Done code result options left) c d h is = record { completion = e; over = h; tells = is }
  part_ends (Ok e) outcome.Memory c d h is = broken_over c d e h
  part_ends (Ok e) outcome.Budget c d h is = absurd is
  part_ends (Ok e) (outcome.Exit status) c d h is = absurd is
  part_ends (Ok e) outcome.Io c d h is = absurd is
  part_ends (Ok e) outcome.Failed c d h is = absurd is
  part_ends (Ok e) outcome.Over c d h is = absurd is
  part_ends (Err stop.Budget) o c d h is = subst (λ x. PartEnds dialect x c d) (sym is) h
  part_ends (Err (stop.Exit n)) o c d h is = subst (λ x. PartEnds dialect x c d) (sym is) h
  part_ends (Err stop.Memory) o c d h is = subst (λ x. PartEnds dialect x c d) (sym is) h
  part_ends (Err stop.Io) o c d h is = subst (λ x. PartEnds dialect x c d) (sym is) h

  -- and back from it
  pub part_made : (o : Outcome) (c d : Config) → PartEnds dialect o c d → (r : Result Completion Stop) × Ends dialect r c d × IsOutcomeOf o r d.state.units
  part_made (outcome.Done code result options left) c d h = (Ok h.completion, h.over, h.tells)
  part_made outcome.Budget c d h = (Err stop.Budget, h, refl)
  part_made (outcome.Exit status) c d h = (Err (stop.Exit status), h, refl)
  part_made outcome.Memory c d h = (Err stop.Memory, h, refl)
  part_made outcome.Io c d h = (Err stop.Io, h, refl)
  part_made outcome.Failed c d h = absurd h
  part_made outcome.Over c d h = absurd h

  pub part_onward : (o : Outcome) (c d : Config) → PartEnds dialect o c d → Onward c.state d.state
  part_onward o c d h = let m = part_made o c d h in ends_onward dialect m.0 c d m.1

  pub part_left : (o : Outcome) (c d : Config) → PartEnds dialect o c d → units_left o ≤ c.state.units
  part_left (outcome.Done code result options left) c d h = let same = h.tells.3 in let fewer = h.over.onward.spends in omega arith
  part_left outcome.Budget c d h = omega arith
  part_left (outcome.Exit status) c d h = omega arith
  part_left outcome.Memory c d h = omega arith
  part_left outcome.Io c d h = omega arith
  part_left outcome.Failed c d h = absurd h
  part_left outcome.Over c d h = absurd h

  -- ---- going on

  halts_go : (c : Config) (m : Machine) (f : Standing) (cs : Commands) (channels : Channels) (n : ℕ) → Halts dialect c (machine_over m f cs channels n) → CanGo m f cs
  halts_go c m f cs channels n h = record {
    fits = λ x k. record { by = h.fits.by };
    unwinds = λ x k. unwinds_same (machine_over m f cs channels n) (machine_over m f cs x k) refl (record { count = refl }) h.unwinds;
  }

  pub part_goes : (o : Outcome) (c : Config) (m : Machine) (f : Standing) (cs : Commands) (channels : Channels) (n : ℕ) → PartEnds dialect o c (machine_over m f cs channels n) → GoesOn (stage_after o) (CanGo m f cs)
  part_goes (outcome.Done code result options left) c m f cs channels n h = tt
  part_goes outcome.Budget c m f cs channels n h = halts_go c m f cs channels n h
  part_goes (outcome.Exit status) c m f cs channels n h = tt
  part_goes outcome.Memory c m f cs channels n h = tt
  part_goes outcome.Io c m f cs channels n h = tt
  part_goes outcome.Failed c m f cs channels n h = absurd h
  part_goes outcome.Over c m f cs channels n h = absurd h

-- one that goes on can
pub goes_can : {can : Type 0} (s : Stage) → s ≡ stage.Going → GoesOn s can → can
goes_can stage.Going is h = h
goes_can stage.Over is h = absurd cc
goes_can stage.Failed is h = absurd cc

-- a run that begins can go on
pub begun_goes : (dialect : Dialect) (text : Text) (m : Machine) (f : Standing) (cs : Commands) → ((channels : Channels) (n : ℕ) → Begins dialect text 1 (machine_over m f cs channels n)) → CanGo m f cs
begun_goes dialect text m f cs b = record {
  fits = λ x n. begins_fits dialect text 1 (machine_over m f cs x n) (b x n) (omega arith);
  unwinds = λ x n. begins_unwinds dialect text 1 (machine_over m f cs x n) (b x n) (omega arith);
}

-- a part that ends is none that had failed
pub part_sound : (dialect : Dialect) (o : Outcome) (c d : Config) → PartEnds dialect o c d → o ≡ outcome.Failed → ⊥
part_sound dialect o c d h is = subst (λ x. PartEnds dialect x c d) is h

-- where a run fails, its outcome says so
pub stage_after_fails : (o : Outcome) → (o ≡ outcome.Failed → ⊥) → stage_fails (stage_after o) ≡ outcome_fails o
stage_after_fails (outcome.Done code result options left) h = refl
stage_after_fails outcome.Budget h = refl
stage_after_fails (outcome.Exit status) h = refl
stage_after_fails outcome.Memory h = refl
stage_after_fails outcome.Io h = refl
stage_after_fails outcome.Failed h = absurd (h refl)
stage_after_fails outcome.Over h = refl
