use Rattle.std.proofs.Common.{ap, sym, subst, ◌∙◌}
use Rattle.tcl_steps.specs.Asked.{IsAsked, at_once}
use Rattle.tcl_control.specs.declared.conditions.Condition.TheVariants as condition
use Rattle.tcl_control.proofs.TestLemmas.{test_ends, test_holds, test_fails}
use Rattle.tcl_meaning.specs.Asking.{ask, done}
use Rattle.tcl_meaning.specs.Completions.{nothing}
use Rattle.tcl_meaning.specs.Tasks.{Pay, While}
use Rattle.tcl_control.proofs.loops.after_while_test.Goals as goal

pub returns-in-Ends : goal.returns-in-Ends
returns-in-Ends c = test_ends _ _ (ask (Pay (While c.args.turns.value.test c.args.turns.value.body))) (done nothing) _ (c.in_ok-completion.ensures (ask (Pay (While c.args.turns.value.test c.args.turns.value.body))) (done nothing)) c.in-Ends.is

pub returns-in-Holds-true : goal.returns-in-Holds-true
returns-in-Holds-true c = ap at_once (test_holds _ _ (ask (Pay (While c.args.turns.value.test c.args.turns.value.body))) (done nothing) (c.in_ok-completion.ensures (ask (Pay (While c.args.turns.value.test c.args.turns.value.body))) (done nothing)) (c.in-Holds-true.is ∙ ap condition.Holds c.in-Holds-true.field-0-test))

pub returns-in-Holds-false : goal.returns-in-Holds-false
returns-in-Holds-false c = subst (IsAsked c.done.result) (sym (test_fails _ _ (ask (Pay (While c.args.turns.value.test c.args.turns.value.body))) (done nothing) (c.in_ok-completion.ensures (ask (Pay (While c.args.turns.value.test c.args.turns.value.body))) (done nothing)) (c.in-Holds-false.is ∙ ap condition.Holds c.in-Holds-false.field-0-test))) c.done.ensures
