use Rattle.std.proofs.Common.{refl, arith}
use Rattle.std.proofs.lemmas.Grind.{common_steps}
use Rattle.tcl_activation.proofs.Lending.{newest_lent}
use Rattle.tcl_activation.proofs.pile.Pile.newest_mut.Goals as goal

pub returns : goal.returns
returns g c =
    let items = c.self.inside.items in (
      (refl {a = c.index_mut.result.ghost_name}, λ w. newest_lent c.args.self.now items.items items.len c.len-newest.result items.ok.0 c.len-newest.ensures c.self.view_is c.requires w),
      record {
        writes_back = tt;
        value = grind (arith, common_steps);
      },
    )
