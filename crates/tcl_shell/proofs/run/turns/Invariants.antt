use Rattle.std.proofs.Common.{◌≡◌, false}
use Rattle.tcl_chan.specs.Worlds.{SameDevices}
use Rattle.tcl_channels.specs.Leaves.{failures_of}
use Rattle.tcl_channels.specs.Shown.{channels_of}
use Rattle.tcl_interp.specs.Interp.{state_at}
use Rattle.tcl_shell.specs.Session.{most_texts, turns}
use Rattle.tcl_shell.specs.Turns.{LeadsTo}
use Rattle.tcl_shell.proofs.run.turns.Given as goal

abbrev pub invariant-texts : goal.invariant-texts
invariant-texts g l =
    LeadsTo (turns l.fn.interp.dialect most_texts (state_at g.R.Input.to_come g.W.Output.written g.E.Output.written l.fn.interp l.fn.world l.fn.budget)) (turns l.interp.dialect l.texts (state_at g.R.Input.to_come g.W.Output.written g.E.Output.written l.interp l.world l.units)) (channels_of g.R.Input.to_come g.W.Output.written g.E.Output.written l.world)
    × (l.interp.failed ≡ false) × (l.interp.dialect ≡ l.fn.interp.dialect) × SameDevices l.fn.world l.world
    × (failures_of g.R.Input.failed_calls g.W.Output.failed_calls g.E.Output.failed_calls l.world ≡ failures_of g.R.Input.failed_calls g.W.Output.failed_calls g.E.Output.failed_calls l.fn.world)

abbrev pub decreases-texts : goal.decreases-texts
decreases-texts g l = l.texts
