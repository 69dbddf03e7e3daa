use Rattle.tcl_engine.proofs.Owing.{if_test, while_body, for_start, for_body, for_next, handled, handling, finishing}
use Rattle.tcl_engine.proofs.owed.after_any.Goals as goal

pub returns-in-IfTest : goal.returns-in-IfTest
returns-in-IfTest c = if_test c.args.dialect c.args.owes c.args.completion c.after_if_test.result c.args.frames.now c.in-IfTest.test c.in-IfTest.is c.after_if_test.ensures

pub returns-in-WhileBody : goal.returns-in-WhileBody
returns-in-WhileBody c = while_body c.args.dialect c.args.owes c.args.completion c.after_while_body.result c.args.frames.now c.in-WhileBody.turns c.in-WhileBody.is (c.after_while_body.ensures c.args.dialect)

pub returns-in-ForStart : goal.returns-in-ForStart
returns-in-ForStart c = for_start c.args.dialect c.args.owes c.args.completion c.after_for_start.result c.args.frames.now c.in-ForStart.turns c.in-ForStart.is (c.after_for_start.ensures c.args.dialect)

pub returns-in-ForBody : goal.returns-in-ForBody
returns-in-ForBody c = for_body c.args.dialect c.args.owes c.args.completion c.after_for_body.result c.args.frames.now c.in-ForBody.turns c.in-ForBody.is (c.after_for_body.ensures c.args.dialect)

pub returns-in-ForNext : goal.returns-in-ForNext
returns-in-ForNext c = for_next c.args.dialect c.args.owes c.args.completion c.after_for_next.result c.args.frames.now c.in-ForNext.turns c.in-ForNext.is (c.after_for_next.ensures c.args.dialect)

pub returns-in-Handled : goal.returns-in-Handled
returns-in-Handled c = handled c.args.dialect c.args.owes c.args.completion c.finish.result c.args.frames.now c.in-Handled.is c.finish.ensures

pub returns-in-Handling : goal.returns-in-Handling
returns-in-Handling c = handling c.args.dialect c.args.owes c.args.completion c.finish-in-Handling.result c.args.frames.now c.in-Handling.finally c.in-Handling.is c.finish-in-Handling.ensures

pub returns-in-Finishing : goal.returns-in-Finishing
returns-in-Finishing c = finishing c.args.dialect c.args.owes c.args.completion c.after_finally.result c.args.frames.now c.in-Finishing.before c.in-Finishing.is c.after_finally.ensures
