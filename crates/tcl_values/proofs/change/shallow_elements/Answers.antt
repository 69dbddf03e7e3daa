use Rattle.std.proofs.Common.{arith}
use Rattle.std.proofs.lemmas.Grind.{common_steps}
use Rattle.tcl_values.proofs.Changed.{depth_low}
use Rattle.tcl_values.proofs.change.shallow_elements.Goals as goal

pub loop-value-preserved : goal.loop-value-preserved
loop-value-preserved c =
    record {
      same = grind (arith, common_steps);
      depth = depth_low c.loop-value.elements.items c.push.new.self.items _ c.loop-value.invariant.depth c.in_ok-push.ensures.items c.in_ok-shallow.ensures.depth;
    }
