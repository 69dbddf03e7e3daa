use Rattle.std.proofs.Common.{arith}
use Rattle.std.proofs.lemmas.Grind.{common_steps}
use Rattle.tcl_values.proofs.Depths.{depth_plain}
use Rattle.tcl_values.proofs.list_reading.plain_elements.Goals as goal

pub loop-text-preserved : goal.loop-text-preserved
loop-text-preserved c =
    record {
      same = grind (arith, common_steps);
      depth = depth_plain c.loop-text.elements.items c.push.new.self.items _ c.loop-text.invariant.depth c.in_ok-push.ensures.items c.word_element.ensures.depth;
    }
