use Rattle.std.proofs.Common.{◌∙◌, arith}
use Rattle.tcl_values.proofs.Beginnings.{block_passed}
use Rattle.tcl_values.proofs.marks.over_blocks.Goals as goal

pub loop-place-preserved : goal.loop-place-preserved
loop-place-preserved c = record {
  within = omega (arith, c.loop-place-test.true, c.loop-place.invariant.within);
  passed =
      block_passed c.args.bytes.now c.loop-place.place c.from-more.result c.loop-place.left _ (c.from-more.ensures ∙ c.starts_in_block.ensures) c.loop-place.invariant.passed c.if-left-more.false;
}
