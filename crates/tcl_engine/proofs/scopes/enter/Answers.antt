use Rattle.std.proofs.Common.{ap, sym, ◌∙◌}
use Rattle.tcl_meaning.specs.Effects.{entered}
use Rattle.tcl_steps.specs.Comes.{state_of}
use Rattle.tcl_steps.specs.Views.{scope_of}
use Rattle.tcl_vm.specs.Standing.{undone_of}
use Rattle.tcl_engine.proofs.Scoping.{within_entered, within_can}
use Rattle.tcl_engine.proofs.scopes.enter.Goals as goal

pub returns-in_ok-push_call-in-Within-clause-entered : goal.returns-in_ok-push_call-in-Within-clause-entered
returns-in_ok-push_call-in-Within-clause-entered c = within_entered (scope_of c.args.scope) _ _ c.args.frames.now c.push_call.new.self (ap scope_of c.in-Within.is) c.into_inner.ensures c.in_ok-push_call-in-Within.ensures.done

pub returns-in_ok-push_call-in-Within-clause-can : goal.returns-in_ok-push_call-in-Within-clause-can
returns-in_ok-push_call-in-Within-clause-can c = λ cs channels units. within_can _ c.active-active.result c.count-count.result c.args.frames.now c.push_call.new.self c.active-active.ensures.there c.count-count.ensures c.in_ok-push_call-in-Within.ensures.done

pub returns-in-Up-clause-undone : goal.returns-in-Up-clause-undone
returns-in-Up-clause-undone c = λ cs channels units. c.at_level.ensures.undone cs channels units ∙ ap (λ s. undone_of s (state_of cs channels units c.args.frames.now)) (sym (ap scope_of c.in-Up.is))

pub returns-in-Up-clause-entered : goal.returns-in-Up-clause-entered
returns-in-Up-clause-entered c = λ cs channels units. c.at_level.ensures.entered cs channels units ∙ ap (λ s. entered s (state_of cs channels units c.args.frames.now)) (sym (ap scope_of c.in-Up.is))

pub returns-in-At-clause-undone : goal.returns-in-At-clause-undone
returns-in-At-clause-undone c = λ cs channels units. c.at_level-in-At.ensures.undone cs channels units ∙ ap (λ s. undone_of s (state_of cs channels units c.args.frames.now)) (sym (ap scope_of c.in-At.is))

pub returns-in-At-clause-entered : goal.returns-in-At-clause-entered
returns-in-At-clause-entered c = λ cs channels units. c.at_level-in-At.ensures.entered cs channels units ∙ ap (λ s. entered s (state_of cs channels units c.args.frames.now)) (sym (ap scope_of c.in-At.is))
