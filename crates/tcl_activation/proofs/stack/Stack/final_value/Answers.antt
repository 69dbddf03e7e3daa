use Rattle.std.proofs.Common.{◌+◌}
use Rattle.tcl_code.specs.Instructions.{Final}
use Rattle.tcl_activation.proofs.Acting.{acts_on}
use Rattle.tcl_activation.proofs.stack.Stack.final_value.Goals as goal

pub returns : goal.returns
returns c = acts_on c.args.dialect Final c.args.self.now c.put.new.self c.put.result _
    c.pop-text.ensures
    (λ at s. c.put.ensures _ c.final_value-answer.ensures.answer (at + 1) s)
