use Rattle.std.proofs.Common.{ap, sym, subst, ◌∙◌}
use Rattle.tcl_steps.specs.Asked.{IsAsked, at_once}
use Rattle.tcl_control.specs.declared.conditions.Condition.TheVariants as condition
use Rattle.tcl_control.proofs.TestLemmas.{test_ends, test_holds, test_fails}
use Rattle.tcl_meaning.specs.Asking.{ask}
use Rattle.tcl_meaning.specs.Control.{next_clause}
use Rattle.tcl_meaning.specs.Effects.{Here}
use Rattle.tcl_meaning.specs.Tasks.{Run, Nothing}
use Rattle.tcl_steps.specs.Views.{others_of}
use Rattle.tcl_control.proofs.conditions.after_condition.Goals as goal

pub returns-in-Ends : goal.returns-in-Ends
returns-in-Ends c = test_ends _ _ (ask (Run Here c.args.body Nothing)) (next_clause (others_of c.args.others).clauses (others_of c.args.others).otherwise) _ (c.in_ok-completion.ensures (ask (Run Here c.args.body Nothing)) (next_clause (others_of c.args.others).clauses (others_of c.args.others).otherwise)) c.in-Ends.is

pub returns-in-Holds-true : goal.returns-in-Holds-true
returns-in-Holds-true c = ap at_once (test_holds _ _ (ask (Run Here c.args.body Nothing)) (next_clause (others_of c.args.others).clauses (others_of c.args.others).otherwise) (c.in_ok-completion.ensures (ask (Run Here c.args.body Nothing)) (next_clause (others_of c.args.others).clauses (others_of c.args.others).otherwise)) (c.in-Holds-true.is ∙ ap condition.Holds c.in-Holds-true.field-0-test))

pub returns-in-Holds-false : goal.returns-in-Holds-false
returns-in-Holds-false c = subst (IsAsked c.next_clause.result) (sym (test_fails _ _ (ask (Run Here c.args.body Nothing)) (next_clause (others_of c.args.others).clauses (others_of c.args.others).otherwise) (c.in_ok-completion.ensures (ask (Run Here c.args.body Nothing)) (next_clause (others_of c.args.others).clauses (others_of c.args.others).otherwise)) (c.in-Holds-false.is ∙ ap condition.Holds c.in-Holds-false.field-0-test))) c.next_clause.ensures
