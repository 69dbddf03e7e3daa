use Rattle.std.proofs.Common.{◌∙◌, refl, ap, length, subst}
use Rattle.tcl_code.specs.Rare.{IsStretchOf}
use Rattle.tcl_code.proofs.RareLemmas.{whatever_err, inside_cut, kept_view, kept_cut, more_view, more_cut}
use Rattle.tcl_code.proofs.rare.RareTexts.push.Goals as goal

pub invariant_of-self-in-Some : goal.invariant_of-self-in-Some
invariant_of-self-in-Some c = inside_cut _ _ _ _ c.self.invariant c.in_ok-push_item.ensures.done (subst (λ b. IsStretchOf b c.args.text.now c.in-Some.stretch) c.as_str.ensures.value c.in-Some.ensures).0

pub invariant_of-self-in_err-end : goal.invariant_of-self-in_err-end
invariant_of-self-in_err-end c = kept_cut _ _ _ _ _ c.self.view_is c.self.invariant c.in_ok-write.ensures.done c.utf8.text _ refl

pub returns-in_err-end-clause-same : goal.returns-in_err-end-clause-same
returns-in_err-end-clause-same c = whatever_err c.from_residual-in_err-end.result _ (kept_view _ _ _ _ _ c.self.view_is c.self.invariant c.in_ok-write.ensures.done c.utf8.text _ refl)

pub invariant_of-self-in_err-push_item-2 : goal.invariant_of-self-in_err-push_item-2
invariant_of-self-in_err-push_item-2 c = kept_cut _ _ _ _ _ c.self.view_is c.self.invariant c.in_ok-write.ensures.done c.utf8.text _ c.in_err-push_item-2.ensures.same

pub returns-in_err-push_item-2-clause-same : goal.returns-in_err-push_item-2-clause-same
returns-in_err-push_item-2-clause-same c = whatever_err c.from_residual-in_err-push_item-2.result _ (kept_view _ _ _ _ _ c.self.view_is c.self.invariant c.in_ok-write.ensures.done c.utf8.text _ c.in_err-push_item-2.ensures.same)

pub invariant_of-self-2 : goal.invariant_of-self-2
invariant_of-self-2 c = more_cut _ _ _ _ _ c.self.view_is c.self.invariant c.in_ok-write.ensures.done c.utf8.text _ _ c.in_ok-push_item-2.ensures.done (c.in_ok-start.ensures ∙ ap length c.as_str-2.ensures.value) (c.in_ok-end.ensures ∙ ap length c.as_str-3.ensures.value)

pub returns-clause-done : goal.returns-clause-done
returns-clause-done c = more_view _ _ _ _ _ c.self.view_is c.self.invariant c.in_ok-write.ensures.done c.utf8.text _ _ c.in_ok-push_item-2.ensures.done (c.in_ok-start.ensures ∙ ap length c.as_str-2.ensures.value) (c.in_ok-end.ensures ∙ ap length c.as_str-3.ensures.value)
