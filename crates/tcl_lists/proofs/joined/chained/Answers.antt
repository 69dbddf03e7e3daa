use Rattle.std.proofs.Common.{ap, sym, ◌∙◌}
use Rattle.tcl_lists.specs.Joined.{begins_sign}
use Rattle.tcl_lists.proofs.Chained.{chained}
use Rattle.tcl_lists.proofs.joined.chained.Goals as goal

pub loop-word-preserved : goal.loop-word-preserved
loop-word-preserved c =
    chained c.args.words.now c.loop-word.word-index c.len.result c.word-item.result c.loop-word.all c.in-Some.row c.in_ok-all-2.all c.loop-word-test.true c.word-item.is (rw c.in-Some.is at c.in_ok-row.ensures)
    (sym c.if-has_sign.false ∙ c.in_ok-has_sign.ensures ∙ ap begins_sign c.items.ensures) c.len.ensures c.loop-word.invariant c.in_ok-all-2.ensures
