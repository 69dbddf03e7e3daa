use Rattle.std.proofs.Common.{◌≡◌, ℕ, sym, subst}
use Rattle.tcl_channels.specs.Shown.{channels_of}
use Rattle.tcl_interp.specs.Pausing.{CanGo, GoesOn, PartEnds, RunShows, machine_in, machine_over}
use Rattle.tcl_interp.proofs.Parts.{goes_can, part_ends, part_goes}
use Rattle.tcl_interp.proofs.pausing.Run.go.Goals as goal

pub resume-ended-requires-clause-fits : goal.resume-ended-requires-clause-fits
resume-ended-requires-clause-fits g c = let i = c.self.inside in (goes_can {can = CanGo i.paused i.frames i.table} i.stage c.in-Going.is c.self.invariant).fits (channels_of g.R.Input.to_come g.W.Output.written g.E.Output.written c.args.world.now) c.args.part

pub resume-ended-requires-clause-unwinds : goal.resume-ended-requires-clause-unwinds
resume-ended-requires-clause-unwinds g c = let i = c.self.inside in (goes_can {can = CanGo i.paused i.frames i.table} i.stage c.in-Going.is c.self.invariant).unwinds (channels_of g.R.Input.to_come g.W.Output.written g.E.Output.written c.args.world.now) c.args.part

pub invariant_of-self : goal.invariant_of-self
invariant_of-self g c =
    let i = c.self.inside in
    let new = c.resume-ended.new in
    let before = machine_over i.paused i.frames i.table (channels_of g.R.Input.to_come g.W.Output.written g.E.Output.written c.args.world.now) c.args.part in
    let after = channels_of g.R.Input.to_come g.W.Output.written g.E.Output.written new.devices in
    subst (λ s. GoesOn s (CanGo new.paused new.frames new.table)) (sym c.stage_after-self-inside.ensures)
    (part_goes i.codes c.outcome_of-outcome.result before new.paused new.frames new.table after new.units
    (part_ends i.codes c.resume-ended.result c.outcome_of-outcome.result before (machine_over new.paused new.frames new.table after new.units) c.resume-ended.ensures.ends c.outcome_of-outcome.ensures))

pub returns-clause-goes : goal.returns-clause-goes
returns-clause-goes g c going =
    let i = c.self.inside in
    let new = c.resume-ended.new in
    let o = c.outcome_of-outcome.result in
    let before = machine_over i.paused i.frames i.table (channels_of g.R.Input.to_come g.W.Output.written g.E.Output.written c.args.world.now) c.args.part in
    let after = machine_over new.paused new.frames new.table (channels_of g.R.Input.to_come g.W.Output.written g.E.Output.written new.devices) new.units in (
      new.units,
      subst (λ (s : RunShows). PartEnds s.dialect o (machine_in g.R.Input.to_come g.W.Output.written g.E.Output.written s c.args.world.now c.args.part) after) c.self.view_is
          (part_ends i.codes c.resume-ended.result o before after c.resume-ended.ensures.ends c.outcome_of-outcome.ensures),
    )
