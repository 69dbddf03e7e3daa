use Rattle.std.proofs.Common.{arith}
use Rattle.tcl_values.specs.Kept.{texts}
use Rattle.tcl_values.proofs.Depths.{depth_added}
use Rattle.tcl_values.proofs.Joined.{reads_written}
use Rattle.tcl_values.proofs.items.add.Goals as goal

pub returns-clause-kept : goal.returns-clause-kept
returns-clause-kept c =
    record {
      limit = omega (arith, c.max-own.ensures, c.depth-depth.ensures, c.requires.element, c.requires.kept.limit);
      exact = depth_added c.args.own.now.items.items c.push.new.self.items c.args.element _ _ _ c.requires.kept.exact c.in_ok-push.ensures.items c.depth-depth.ensures c.max-own.ensures;
      reading = reads_written (texts c.push.new.self.items);
      beside = tt;
      lower = tt;
    }
