use Rattle.tcl_activation.proofs.Acting.{apply_acts}
use Rattle.tcl_activation.proofs.stack.Stack.apply.Goals as goal

pub returns : goal.returns
returns c = apply_acts c.args.dialect c.args.function c.args.count c.args.self.now c.put.new.self c.put.result c.in_ok-arguments.arguments.items c.deref_mut.result.now c.lifted.new.texts
    c.in_ok-arguments.ensures c.deref_mut.ensures.value (c.put.ensures _ c.apply-answer.ensures.answer)
