use Rattle.tcl_control.proofs.TryLemmas.{handled, unhandled}
use Rattle.tcl_steps.specs.Views.{handler_of}
use Rattle.tcl_control.proofs.trying.handle.Goals as goal

pub returns-in_ok-script-in-Ok : goal.returns-in_ok-script-in-Ok
returns-in_ok-script-in-Ok c =
    handled c.args.finally c.args.completion.now (handler_of c.args.handler.now) _ _ c.deref.result.now c.deref.ensures.value _ c.handling.result c.handling.ensures c.in_ok-script-in-Ok.ensures c.in-Ok.ensures

pub returns-in-Err-Error : goal.returns-in-Err-Error
returns-in-Err-Error c =
    unhandled c.args.finally c.args.completion.now (handler_of c.args.handler.now) _ _ c.deref.result.now c.deref.ensures.value c.finish.result _ _ c.in-Err-Error.field-0-is c.in-Err-Error.ensures
    c.finish.ensures
