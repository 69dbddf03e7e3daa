use Rattle.std.proofs.Common.{ap, sym, subst, ◌∙◌}
use Rattle.tcl_steps.specs.Asked.{IsAsked, at_once}
use Rattle.tcl_control.proofs.PageLemmas.{for_usage, for_asks}
use Rattle.tcl_steps.specs.declared.step.ForLoop.{ForLoop}
use Rattle.tcl_control.proofs.loops.for_page.Goals as goal

pub returns-then-words-ne4 : goal.returns-then-words-ne4
returns-then-words-ne4 c = λ d. subst (IsAsked c.usage.result) (sym (for_usage d c.args.words.now c.if-words-ne4.true)) c.usage.ensures

pub returns : goal.returns
returns c =
    λ d. ap at_once (for_asks d c.args.words.now _ _ _ _ c.if-words-ne4.false c.in_ok-start.ensures
    (ap (λ (t : ForLoop). t.test) c.in_ok-turns.ensures.ok ∙ c.in_ok-test.ensures) (ap (λ (t : ForLoop). t.next) c.in_ok-turns.ensures.ok ∙ c.in_ok-next.ensures) (ap (λ (t : ForLoop). t.body) c.in_ok-turns.ensures.ok ∙ c.in_ok-body.ensures))
