use Rattle.tcl_vars.proofs.ElementLemmas.{empty_there}
use Rattle.tcl_vars.proofs.path.element_of.Goals as goal

pub returns-in_ok-empty-in-None-clause-element : goal.returns-in_ok-empty-in-None-clause-element
returns-in_ok-empty-in-None-clause-element c = empty_there c.args.list.now c.in_ok-empty-in-None.field-0 c.args.place _ c.in_ok-element.ensures.item c.in-None.is c.in_ok-empty-in-None.ensures
