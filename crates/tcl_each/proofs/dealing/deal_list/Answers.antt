use Rattle.std.proofs.Common.{length, arith}
use Rattle.tcl_each.proofs.DealingLemmas.{element_dealt}
use Rattle.tcl_each.proofs.dealing.deal_list.Goals as goal

pub loop-place-preserved : goal.loop-place-preserved
loop-place-preserved c =
    element_dealt c.args.list.now.elements (length c.args.list.now.names.items) c.args.list.now.gone c.loop-place.place c.in_ok-value.value c.loop-place.dealt.items c.push.new.self.items _ (omega (arith, c.loop-place-test.true)) c.in_ok-value.ensures c.in_ok-push.ensures.items c.loop-place.invariant
