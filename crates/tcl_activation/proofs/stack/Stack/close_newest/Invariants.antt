use Rattle.std.specs.Prelude.{◌≡◌, drop}
use Rattle.tcl_activation.proofs.stack.Stack.close_newest.Given as goal

abbrev pub invariant-loop : goal.invariant-loop
invariant-loop l = l.self.loops ≡ drop l.counter l.fn.self.loops
