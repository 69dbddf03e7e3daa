use Rattle.std.proofs.Common.{◌+◌, length, sym, ltb-false}
use Rattle.tcl_lists.specs.Sorted.{is_before}
use Rattle.tcl_lists.proofs.SortLemmas.{last_ties}
use Rattle.tcl_lists.proofs.sort.ties_with_next.Goals as goal

pub returns-in-None : goal.returns-in-None
returns-in-None g c = sym (last_ties (is_before g.K.Key.is_less c.args.options) c.args.items.now c.args.place (ltb-false (c.args.place + 1) (length c.args.items.now) (sym c.in-None.ensures.lookup.0)))
