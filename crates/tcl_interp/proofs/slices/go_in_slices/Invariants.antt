use Rattle.std.proofs.Common.{◌≡◌, false}
use Rattle.tcl_channels.specs.Leaves.{Leaves}
use Rattle.tcl_interp.specs.Pausing.{machine_in}
use Rattle.tcl_interp.specs.Slices.{InSlices}
use Rattle.tcl_interp.specs.declared.stage.Stage.TheVariants as stage
use Rattle.tcl_interp.proofs.slices.go_in_slices.Given as goal

abbrev pub invariant-slices : goal.invariant-slices
invariant-slices g l = record {
  goes : l.run.stage ≡ stage.Going;
  dialect : l.run.dialect ≡ l.fn.run.dialect;
  slices : InSlices l.fn.run.dialect (machine_in g.R.Input.to_come g.W.Output.written g.E.Output.written l.fn.run l.fn.world 0) (machine_in g.R.Input.to_come g.W.Output.written g.E.Output.written l.run l.world 0) l.fn.budget l.rest;
  leaves : Leaves g.R.Input.failed_calls g.W.Output.failed_calls g.E.Output.failed_calls false l.fn.world l.world;
}

abbrev pub decreases-slices : goal.decreases-slices
decreases-slices g l = l.rest
