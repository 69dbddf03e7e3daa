use Rattle.std.proofs.Common.{ap}
use Rattle.std.specs.FinMap as map
use Rattle.tcl_frames.proofs.Standings.{pushed_standing}
use Rattle.tcl_frames.proofs.stack.Stack.new.Goals as goal

pub invariant_of-result : goal.invariant_of-result
invariant_of-result c = pushed_standing c.push.new.self.items c.new-calls.result.items _ c.in_ok-push.ensures.items c.new-calls.ensures.items (ap (λ m. record { caller = 0; level = 0; variables = map.empty; links = m }) c.new.ensures)
