use Rattle.std.proofs.Common.{refl}
use Rattle.tcl_activation.proofs.Lending.{second_lent, under_lent}
use Rattle.tcl_activation.proofs.pile.Pile.second_mut.Goals as goal

pub returns : goal.returns
returns g c =
    let items = c.self.inside.items in (
      (refl {a = c.index_mut.result.ghost_name}, λ w. under_lent c.args.self.now items.items items.len c.len-second.result items.ok.0 c.len-second.ensures c.self.view_is c.requires w),
      record {
        writes_back = tt;
        value = second_lent c.args.self.now items.items items.len c.len-second.result c.index_mut.result.now items.ok.0 c.len-second.ensures c.self.view_is c.requires c.index_mut.ensures.value;
      },
    )
