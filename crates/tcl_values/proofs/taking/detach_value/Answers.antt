use Rattle.std.proofs.Common.{ap, arith}
use Rattle.tcl_values.specs.Kept.{depth_over}
use Rattle.tcl_values.proofs.Depths.{depth_below, depth_set-bound}
use Rattle.tcl_values.proofs.Replaced.{plain_texts}
use Rattle.tcl_values.proofs.taking.detach_value.Goals as goal

pub returns-clause-values : goal.returns-clause-values
returns-clause-values c =
    plain_texts c.args.own.now.values.items _ c.args.place c.in_ok-plain.plain c.put.result c.index.result.now c.put.ensures.before c.put.ensures.put c.index.ensures c.in_ok-plain.ensures.text

pub returns-clause-deeper : goal.returns-clause-deeper
returns-clause-deeper c =
    omega (
      arith,
      c.requires.deeper,
      ap depth_over c.put.ensures.put,
      c.in_ok-plain.ensures.depth,
      depth_set-bound c.args.own.now.values.items c.args.place c.in_ok-plain.plain,
      depth_below c.args.own.now.values.items c.args.place c.index.result.now c.requires.place c.index.ensures,
    )
