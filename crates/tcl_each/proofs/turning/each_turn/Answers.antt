use Rattle.std.proofs.Common.{[], Err, ap, subst, ◌∙◌}
use Rattle.tcl_each.specs.Turns.{GoesOn}
use Rattle.tcl_meaning.specs.Control.{each_set}
use Rattle.tcl_steps.specs.Views.{each_of, loop_lists_of}
use Rattle.tcl_steps.specs.declared.step.Each.{Each}
use Rattle.tcl_steps.specs.declared.stop.Stop.{Stop}
use Rattle.tcl_each.proofs.TurnLemmas.{turn_asks, turn_fails}
use Rattle.tcl_each.proofs.turning.each_turn.Goals as goal

pub returns-in-Ok : goal.returns-in-Ok
returns-in-Ok c =
    turn_asks (each_of c.args.each.value) c.deref-2.result.now c.args.each.value.lists.items c.args.frames.now c.set_lists.new.frames (c.deref-2.ensures.value ∙ ap (λ (e : Each). e.lists.items) c.deref.ensures) c.run_body.result (c.in-Ok.ensures (each_of c.args.each.value)) c.run_body.ensures

pub returns-in-Err-Error : goal.returns-in-Err-Error
returns-in-Err-Error c =
    turn_fails (each_of c.args.each.value) c.deref-2.result.now c.args.each.value.lists.items c.args.frames.now c.set_lists.new.frames (c.deref-2.ensures.value ∙ ap (λ (e : Each). e.lists.items) c.deref.ensures) c.in-Err-Error.completion
    (subst (λ (s : Stop). GoesOn {A = Unit {0}} (each_set (each_of c.args.each.value) (loop_lists_of c.deref-2.result.now)) (each_set (each_of c.args.each.value) []) c.args.frames.now (Err s) c.set_lists.new.frames) c.in-Err-Error.field-0-is (c.in-Err-Error.ensures (each_of c.args.each.value)))
