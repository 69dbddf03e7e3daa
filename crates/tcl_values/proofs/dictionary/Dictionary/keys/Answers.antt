use Rattle.std.proofs.Common.{sym, ap, ◌∙◌}
use Rattle.tcl_pages.specs.Dictionaries.{keys_of}
use Rattle.tcl_values.specs.declared.element.Pairs.{Pairs}
use Rattle.tcl_values.proofs.PairPlaces.{keys_in}
use Rattle.tcl_values.proofs.dictionary.Dictionary.keys.Goals as goal

pub returns : goal.returns
returns c =
    c.as_slice.ensures.keys ∙ ap (λ (p : Pairs). p.keys.keys) c.deref.ensures ∙ sym (keys_in _ _ c.self.invariant.even) ∙ ap keys_of c.self.view_is
