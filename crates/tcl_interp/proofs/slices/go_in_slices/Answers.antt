use Rattle.std.proofs.Common.{◌≡◌, ◌-◌, false, sym, ap, subst, ◌∙◌, arith}
use Rattle.tcl_channels.specs.Leaves.{Leaves}
use Rattle.tcl_channels.specs.Leaving.{leaves_then}
use Rattle.tcl_channels.specs.Shown.{channels_of}
use Rattle.tcl_interp.specs.Interp.{remains_at, state_at}
use Rattle.tcl_interp.specs.Outcome.{Ends, outcome_fails, outcome_is_io}
use Rattle.tcl_interp.specs.Pausing.{PartEnds, machine_in, stage_after, stage_fails, stopped}
use Rattle.tcl_meaning.specs.Run.{run_script}
use Rattle.tcl_interp.proofs.Parts.{part_sound, stage_after_fails}
use Rattle.tcl_interp.proofs.Slicing.{slice_paused, early_told, last_told, more_fails, more_is_io}
use Rattle.tcl_interp.proofs.slices.go_in_slices.Goals as goal

pub slices-preserved : goal.slices-preserved
slices-preserved g c =
    let i = c.slices.invariant in
    let ends = c.go.ensures.goes i.goes in
    record {
      goes = c.go.ensures.stage ∙ ap stage_after c.in-Budget.is;
      dialect = c.go.ensures.dialect ∙ i.dialect;
      slices = slice_paused c.slices.run.dialect c.args.run.now.dialect (machine_in g.R.Input.to_come g.W.Output.written g.E.Output.written c.args.run.now c.args.world.now 0) c.slices.run (channels_of g.R.Input.to_come g.W.Output.written g.E.Output.written c.slices.world) c.go.new.self (channels_of g.R.Input.to_come g.W.Output.written g.E.Output.written c.go.new.world) ends.0 c.args.budget c.slices.rest c.args.slice c.go.result i.dialect c.in-Budget.is c.if-slice-rest.true i.slices ends.1;
      leaves = leaves_then g.R.Input.failed_calls g.W.Output.failed_calls g.E.Output.failed_calls false _ _ _ i.leaves (subst (λ o. Leaves g.R.Input.failed_calls g.W.Output.failed_calls g.E.Output.failed_calls (outcome_is_io o) c.slices.world c.go.new.world) c.in-Budget.is c.go.ensures.leaves);
    }

pub returns-in_default : goal.returns-in_default
returns-in_default g c =
    let i = c.slices.invariant in
    let ends = c.go.ensures.goes i.goes in
    let less = c.if-slice-rest.true in
    let before = channels_of g.R.Input.to_come g.W.Output.written g.E.Output.written c.args.world.now in
    let between = channels_of g.R.Input.to_come g.W.Output.written g.E.Output.written c.slices.world in
    let after = channels_of g.R.Input.to_come g.W.Output.written g.E.Output.written c.go.new.world in
    record {
      run = λ text interp starts.
          subst (λ o. Ends o (run_script interp.dialect text (state_at g.R.Input.to_come g.W.Output.written g.E.Output.written interp c.args.world.now c.args.budget)) (remains_at g.R.Input.to_come g.W.Output.written g.E.Output.written (stopped c.go.new.self) c.go.new.world)) (sym c.with_rest.ensures)
          (early_told interp text c.args.run.now before starts c.go.new.self after ends.0 c.slices.run between c.args.budget c.slices.rest c.args.slice (c.slices.rest - c.args.slice) c.go.result (omega (arith, less)) c.in_default.not-Budget i.slices
          (subst (λ d. PartEnds d c.go.result (machine_in g.R.Input.to_come g.W.Output.written g.E.Output.written c.slices.run c.slices.world c.args.slice) (machine_in g.R.Input.to_come g.W.Output.written g.E.Output.written c.go.new.self c.go.new.world ends.0)) i.dialect ends.1));
      fails = ap stage_fails c.go.ensures.stage ∙ stage_after_fails c.go.result (part_sound c.slices.run.dialect c.go.result _ _ ends.1) ∙ sym (ap outcome_fails c.with_rest.ensures ∙ more_fails (c.slices.rest - c.args.slice) c.go.result);
      leaves = leaves_then g.R.Input.failed_calls g.W.Output.failed_calls g.E.Output.failed_calls _ _ _ _ i.leaves (subst (λ io. Leaves g.R.Input.failed_calls g.W.Output.failed_calls g.E.Output.failed_calls io c.slices.world c.go.new.world) (sym (ap outcome_is_io c.with_rest.ensures ∙ more_is_io (c.slices.rest - c.args.slice) c.go.result)) c.go.ensures.leaves);
    }

pub returns-clause-run : goal.returns-clause-run
returns-clause-run g c text interp starts =
    let i = c.slices.invariant in
    let ends = c.go-2.ensures.goes i.goes in
    let before = channels_of g.R.Input.to_come g.W.Output.written g.E.Output.written c.args.world.now in
    let between = channels_of g.R.Input.to_come g.W.Output.written g.E.Output.written c.slices.world in
    let after = channels_of g.R.Input.to_come g.W.Output.written g.E.Output.written c.go-2.new.world in
    last_told interp text c.args.run.now before starts c.go-2.new.self after ends.0 c.slices.run between c.args.budget c.slices.rest c.go-2.result i.slices
    (subst (λ d. PartEnds d c.go-2.result (machine_in g.R.Input.to_come g.W.Output.written g.E.Output.written c.slices.run c.slices.world c.slices.rest) (machine_in g.R.Input.to_come g.W.Output.written g.E.Output.written c.go-2.new.self c.go-2.new.world ends.0)) i.dialect ends.1)
