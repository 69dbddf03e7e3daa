use Rattle.std.proofs.Common.{◌∙◌, sym, arith}
use Rattle.tcl_steps.specs.Views.{loop_lists_of}
use Rattle.tcl_each.proofs.DealingLemmas.{turn_dealt, turns_over}
use Rattle.tcl_each.proofs.dealing.deal.Goals as goal

pub returns-then-not-has_more : goal.returns-then-not-has_more
returns-then-not-has_more c = turns_over c.longest-end.result c.loop.counter (loop_lists_of c.loop.lists) c.loop.dealt.items c.loop.dealt.items _ c.loop.invariant (sym c.has_more.ensures ∙ c.if-not-has_more.true)

pub loop-preserved : goal.loop-preserved
loop-preserved c =
    turn_dealt c.longest-end.result c.loop.counter (loop_lists_of c.loop.lists) c.loop.dealt.items c.deal_turn.new.dealt.items _ c.loop.invariant (loop_lists_of c.move_lists.new.lists) (omega (arith, c.loop-test.true)) (sym c.has_more.ensures ∙ c.if-not-has_more.false)
    c.in_ok-deal_turn.ensures c.move_lists.ensures
