use Rattle.std.proofs.Common.{◌+◌}
use Rattle.tcl_code.specs.Instructions.{Unary}
use Rattle.tcl_activation.proofs.Acting.{acts_on}
use Rattle.tcl_activation.proofs.stack.Stack.unary.Goals as goal

pub returns : goal.returns
returns c = acts_on c.args.dialect (Unary c.args.op) c.args.self.now c.put.new.self c.put.result _
    c.pop-operand.ensures
    (λ at s. c.put.ensures _ c.unary-answer.ensures.answer (at + 1) s)
