use Rattle.std.proofs.Common.{◌≡◌, ◌∷◌, drop, subst}
use Rattle.std.specs.Prelude.{IfSome}
use Rattle.tcl_code.specs.Machine.{Loop, Texts}
use Rattle.tcl_activation.proofs.EachTurn.{first_of_lists}
use Rattle.tcl_activation.proofs.open_loop.OpenLoop.next_word.Goals as goal

pub returns : goal.returns
returns c = subst (λ (o : Loop). IfSome c.first.result (λ word. (rest : Texts) × (o.lists ≡ (word.now ∷ rest) ∷ drop 1 o.lists))) c.self.view_is
    (first_of_lists c.self.inside.lists c.newest.result.now c.newest.ensures c.first.result c.first.ensures)
