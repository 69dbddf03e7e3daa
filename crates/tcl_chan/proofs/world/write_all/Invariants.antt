use Rattle.std.proofs.Common.{◌≡◌, length}
use Rattle.tcl_chan.proofs.Puts.{Writing}
use Rattle.tcl_chan.proofs.world.write_all.Given as goal

abbrev pub invariant-parts : goal.invariant-parts
invariant-parts g l =
    Writing (g.W.Output.written l.fn.output) (g.W.Output.written l.output) l.fn.bytes l.rest
    × (g.W.Output.failed_calls l.output ≡ g.W.Output.failed_calls l.fn.output)

abbrev pub decreases-parts : goal.decreases-parts
decreases-parts g l = length l.rest
