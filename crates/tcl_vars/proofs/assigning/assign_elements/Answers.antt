use Rattle.std.proofs.Common.{List, [], length, get_or, ap, ◌∙◌}
use Rattle.tcl_pages.specs.Lists.{values_for}
use Rattle.tcl_pages.specs.Texts.{Text}
use Rattle.tcl_vars.proofs.AssignLemmas.{values_are}
use Rattle.tcl_vars.proofs.assigning.assign_elements.Goals as goal

pub returns-clause-ends : goal.returns-clause-ends
returns-clause-ends c =
    let es = c.args.row.now in
    let n = length c.args.names.now in
    c.assign_all.ensures.ends (values_for n es) (λ i lt. ap (λ (us : List Text). get_or us i []) c.items.ensures ∙ values_are es n i lt)
