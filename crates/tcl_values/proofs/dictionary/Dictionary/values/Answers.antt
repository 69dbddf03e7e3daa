use Rattle.std.proofs.Common.{sym, ap, ◌∙◌}
use Rattle.tcl_pages.specs.Dictionaries.{values_of}
use Rattle.tcl_values.specs.Kept.{texts}
use Rattle.tcl_values.specs.declared.element.Pairs.{Pairs}
use Rattle.tcl_values.proofs.PairPlaces.{values_in}
use Rattle.tcl_values.proofs.dictionary.Dictionary.values.Goals as goal

pub returns : goal.returns
returns c =
    ap texts (c.deref-2.ensures.value ∙ ap (λ (p : Pairs). p.values.items) c.deref.ensures) ∙ sym (values_in _ _ c.self.invariant.even) ∙ ap values_of c.self.view_is
