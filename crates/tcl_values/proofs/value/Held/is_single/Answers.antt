use Rattle.tcl_values.proofs.Singles.{single_number}
use Rattle.tcl_values.proofs.value.Held.is_single.Goals as goal

pub returns-in-Number : goal.returns-in-Number
returns-in-Number c =
    let fits = rw c.in-Number.is at c.requires in
    λ _. rw c.in-Number.is (single_number c.in-Number.field-0 fits)
