use Rattle.std.proofs.Common.{[], ◌∷◌, ap, sym, ◌∙◌, w64, Ok, rules}
use Rattle.std.proofs.lemmas.Int.{to_z-of_z}
use Rattle.tcl_pages.specs.Lists.{element_set}
use Rattle.tcl_vars.proofs.ElementLemmas.{none_changes, not_negative, number_set}
use Rattle.tcl_vars.proofs.path.put_near.Goals as goal

pub returns-in-Ok-Some-clause-done : goal.returns-in-Ok-Some-clause-done
returns-in-Ok-Some-clause-done c =
    let number = c.in-Some.number in
    let place = sym (to_z-of_z w64 number (search rules)) ∙ not_negative _ c.if-number-lt0.false in
    λ done.
    ap (element_set c.args.dialect c.args.list.now (c.args.index.now ∷ [])) (sym c.in_ok-copy.ensures)
    ∙ number_set c.args.dialect c.args.list.now c.args.index.now c.in_ok-copy.field-0 _ c.in-Ok-Some.field-0-0 number _ c.in-Some.ensures place (c.in-Ok-Some.ensures.before ∙ ap Ok c.in-Ok-Some.field-0-is) c.in-Ok-Some.ensures.done

pub returns-in-Ok-None-clause-same : goal.returns-in-Ok-None-clause-same
returns-in-Ok-None-clause-same c = λ done. none_changes c.args.list.now c.in_ok-copy.field-0 _ _ (c.in-Ok-None.ensures.before ∙ ap Ok c.in-Ok-None.field-0-is) c.in-Ok-None.ensures.done
