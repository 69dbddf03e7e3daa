use Rattle.std.proofs.Common.{rules}
use Rattle.std.proofs.lemmas.Fn.{always_returns_same}
use Rattle.std.proofs.lemmas.Result.{on_ok_weaker}
use Rattle.tcl_lists.proofs.SortLemmas.{items_sorted}
use Rattle.tcl_lists.proofs.sort.sort.Goals as goal

pub returns : goal.returns
returns g c =
    on_ok_weaker c.sort_by.result
    (λ up. items_sorted g.K.Key.is_less g.met.K.Key.orders c.args.options _ _ c.args.items.now.items c.sort_by.new.self.items (always_returns_same _ _ _ (λ a r f k. search rules)) up c.sort_by.ensures.stable) c.sort_by.ensures.sorted
