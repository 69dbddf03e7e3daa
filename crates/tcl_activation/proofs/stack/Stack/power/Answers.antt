use Rattle.std.proofs.Common.{◌+◌, ◌∷◌, ◌∙◌, ap}
use Rattle.tcl_code.specs.Instructions.{Power}
use Rattle.tcl_activation.proofs.Acting.{acts_on}
use Rattle.tcl_activation.proofs.stack.Stack.power.Goals as goal

pub returns : goal.returns
returns c = acts_on c.args.dialect Power c.args.self.now c.put.new.self c.put.result _
    (c.pop-right.ensures ∙ ap (λ ts. c.pop-right.result ∷ ts) c.pop-left.ensures)
    (λ at s. c.put.ensures _ c.power-answer.ensures.answer (at + 1) s)
