use Rattle.std.proofs.Common.{refl}
use Rattle.tcl_activation.proofs.Lending.{top_lent, top_is}
use Rattle.tcl_activation.proofs.pile.Pile.top.Goals as goal

pub returns : goal.returns
returns g c =
    let items = c.self.inside.items in (
      (refl {a = c.slice_mut.result.ghost_name}, λ w. top_lent items.items items.len c.len.result c.args.count c.args.self.now items.ok.0 c.len.ensures c.self.view_is c.requires w),
      record {
        writes_back = tt;
        value = top_is items.items items.len c.len.result c.args.count c.args.self.now items.ok.0 c.len.ensures c.self.view_is c.requires c.slice_mut.result.now c.slice_mut.ensures.value;
      },
    )
