use Rattle.tcl_pages.proofs.Orders.{orders_are_strict}
use Rattle.tcl_pages.proofs.laws.orders_are_strict.Goals as goal

pub returns : goal.returns
returns c = orders_are_strict
