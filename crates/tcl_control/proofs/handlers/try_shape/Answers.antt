use Rattle.std.proofs.Common.{map, ap, sym, ◌∙◌}
use Rattle.tcl_control.proofs.HandlerLemmas.{dash_last}
use Rattle.tcl_meaning.specs.Handlers.{last_runs}
use Rattle.tcl_steps.specs.Views.{handler_of, handlers_of}
use Rattle.tcl_control.proofs.handlers.try_shape.Goals as goal

pub returns : goal.returns
returns c =
    dash_last c.args.dialect c.args.words.now (handlers_of c.in_ok-handlers.handlers) _ c.in_ok-handlers.ensures
    (ap (λ hs. last_runs (map handler_of hs)) (sym c.deref.ensures.value) ∙ sym c.in_ok-last_runs.ensures ∙ c.if-branch.false) c.in_ok-said.ensures
