use Rattle.std.proofs.Common.{arith}
use Rattle.tcl_operators.proofs.SameLists.{others_by_length, one_more, others_at, all_same}
use Rattle.tcl_operators.proofs.lists.are_same.Goals as goal

pub returns-then-first-second : goal.returns-then-first-second
returns-then-first-second c = others_by_length c.args.first.now c.args.second.now c.if-first-second.true

pub returns-then-not-branch : goal.returns-then-not-branch
returns-then-not-branch c =
    others_at c.args.first.now c.args.second.now c.loop-place.place c.index-first-place.result c.index-second-place.result c.in_ok-is_same.field-0 c.loop-place-test.true (omega (arith, c.loop-place-test.true, c.if-first-second.false))
    c.index-first-place.is c.index-second-place.is c.in_ok-is_same.ensures c.if-not-branch.true

pub loop-place-preserved : goal.loop-place-preserved
loop-place-preserved c =
    one_more c.args.first.now c.args.second.now c.loop-place.place c.index-first-place.result c.index-second-place.result c.in_ok-is_same.field-0 c.loop-place-test.true (omega (arith, c.loop-place-test.true, c.if-first-second.false))
    c.index-first-place.is c.index-second-place.is c.in_ok-is_same.ensures c.if-not-branch.false c.loop-place.invariant

pub returns : goal.returns
returns c =
    all_same c.args.first.now c.args.second.now c.loop-place.place (omega (arith, c.loop-place-test.false)) (omega (arith, c.loop-place-test.false, c.if-first-second.false)) c.loop-place.invariant
