use Rattle.std.proofs.Common.{◌≡◌, length, map}
use Rattle.std.specs.Prelude.{option_map}
use Rattle.tcl_meaning.specs.Handlers.{code_elements, handler_for}
use Rattle.tcl_steps.specs.Views.{handler_of}
use Rattle.tcl_control.proofs.handlers.handler_for.Given as goal

abbrev pub invariant-handlers : goal.invariant-handlers
invariant-handlers l = record {
  elements : option_map (λ v. v.items) l.elements ≡ code_elements l.fn.completion;
  sought : handler_for (map handler_of l.fn.handlers) l.fn.completion ≡ handler_for (map handler_of l.rest) l.fn.completion;
}

abbrev pub decreases-handlers : goal.decreases-handlers
decreases-handlers l = length l.rest
