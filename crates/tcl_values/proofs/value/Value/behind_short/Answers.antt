use Rattle.std.proofs.Common.{◌≡◌, ◌++◌, ◌∙◌, IfSome, ap, sym, subst}
use Rattle.tcl_values.specs.Shape.{held_text, IsHeld}
use Rattle.tcl_values.specs.Short.{short_text}
use Rattle.tcl_values.proofs.Decimals.{printed}
use Rattle.tcl_values.proofs.value.Value.behind_short.Goals as goal

pub returns-in-Number-clause-text : goal.returns-in-Number-clause-text
returns-in-Number-clause-text c =
    let fits = subst IsHeld c.in-Number.is c.self.invariant in
    let own = printed c.in-Number.n c.format.result.now fits c.format.ensures.text ∙ sym (ap held_text c.in-Number.is) ∙ c.self.view_is in
    subst (λ t. IfSome c.joined.result (λ s. short_text s ≡ short_text c.args.front.now ++ t)) own c.joined.ensures.text
