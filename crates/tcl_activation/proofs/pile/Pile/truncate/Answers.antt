use Rattle.tcl_activation.proofs.Lending.{top_dropped}
use Rattle.tcl_activation.proofs.pile.Pile.truncate.Goals as goal

pub returns : goal.returns
returns g c =
    let items = c.self.inside.items in
    top_dropped items.items items.len c.len.result c.args.count c.args.self.now items.ok.0 c.len.ensures c.self.view_is c.requires c.truncate.new.self.items c.truncate.ensures.items
