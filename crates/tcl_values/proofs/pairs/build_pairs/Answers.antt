use Rattle.std.proofs.Common.{ap, arith}
use Rattle.tcl_values.specs.Kept.{texts}
use Rattle.tcl_values.specs.Paired.{read_pairs}
use Rattle.tcl_values.proofs.Depths.{depth_least}
use Rattle.tcl_values.proofs.pairs.build_pairs.Goals as goal

pub loop-key-init : goal.loop-key-init
loop-key-init c =
    record {
      same = ap (λ ps. read_pairs ps (texts c.args.elements.now)) c.no_pairs-pairs.ensures.pairs;
      within = omega arith;
      depth = omega (arith, c.no_pairs-pairs.ensures.depth, depth_least c.args.elements.now);
      text = c.no_pairs-pairs.ensures.text;
      kept = c.no_pairs-pairs.ensures.kept;
    }
