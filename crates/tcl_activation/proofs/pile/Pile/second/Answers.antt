use Rattle.tcl_activation.proofs.Lending.{second_lent}
use Rattle.tcl_activation.proofs.pile.Pile.second.Goals as goal

pub returns : goal.returns
returns g c =
    let items = c.self.inside.items in
    second_lent c.args.self.now items.items items.len c.len.result c.index.result.now items.ok.0 c.len.ensures c.self.view_is c.requires c.index.ensures
