use Rattle.std.proofs.Common.{ap, sym, subst, ◌∙◌}
use Rattle.tcl_steps.specs.Asked.{IsAsked}
use Rattle.tcl_control.proofs.PageLemmas.{while_usage, while_asks}
use Rattle.tcl_steps.specs.declared.step.WhileLoop.{WhileLoop}
use Rattle.tcl_control.proofs.loops.while_page.Goals as goal

pub returns-then-words-ne2 : goal.returns-then-words-ne2
returns-then-words-ne2 c = subst (IsAsked c.usage.result) (sym (while_usage c.args.dialect c.args.words.now c.if-words-ne2.true)) c.usage.ensures

pub returns : goal.returns
returns c = subst (IsAsked c.while_next.result) (sym (while_asks c.args.dialect c.args.words.now _ _ c.if-words-ne2.false (ap (λ (w : WhileLoop). w.test) c.in_ok-new.ensures.ok ∙ c.in_ok-test.ensures) (ap (λ (w : WhileLoop). w.body) c.in_ok-new.ensures.ok ∙ c.in_ok-body.ensures))) c.while_next.ensures
