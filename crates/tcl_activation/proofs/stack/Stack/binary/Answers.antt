use Rattle.std.proofs.Common.{◌+◌, ◌∷◌, ◌∙◌, ap}
use Rattle.tcl_code.specs.Instructions.{Binary}
use Rattle.tcl_activation.proofs.Acting.{acts_on, operator_acts}
use Rattle.tcl_activation.proofs.stack.Stack.binary.Goals as goal

pub returns : goal.returns
returns c = acts_on c.args.dialect (Binary c.args.op) c.args.self.now c.put.new.self c.put.result _
    (c.pop-right.ensures ∙ ap (λ ts. c.pop-right.result ∷ ts) c.pop-left.ensures)
    (λ at s. operator_acts c.put.result (record c.args.self.now { texts = c.pop-left.new.self }) c.put.new.self c.pop-left.result c.pop-right.result c.binary-answer.result _ c.binary-answer.ensures.answer c.put.ensures (at + 1) s)
