use Rattle.std.proofs.Common.{◌∙◌, sym}
use Rattle.tcl_activation.proofs.Passing.{passes_one, stops}
use Rattle.tcl_activation.proofs.loops.passed.Goals as goal

pub returns-then-not-passes : goal.returns-then-not-passes
returns-then-not-passes c = stops c.args.open.now c.loop-behind.behind c.loop-behind.invariant c.index-open-count.result c.loop-behind-test.true c.index-open-count.is (sym c.passes.ensures ∙ c.if-not-passes.true)

pub loop-behind-preserved : goal.loop-behind-preserved
loop-behind-preserved c = passes_one c.args.open.now c.loop-behind.behind c.loop-behind.invariant c.index-open-count.result c.loop-behind-test.true c.index-open-count.is (sym c.passes.ensures ∙ c.if-not-passes.false)
