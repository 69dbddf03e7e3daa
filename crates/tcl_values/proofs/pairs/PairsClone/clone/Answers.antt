use Rattle.std.proofs.Common.{sym, ◌∙◌, refl}
use Rattle.tcl_values.proofs.PairPlaces.{same_keys}
use Rattle.tcl_values.proofs.pairs.PairsClone.clone.Goals as goal

pub returns : goal.returns
returns c = record {
  cases = record {
    text = sym c.in_ok-copy_text.ensures;
    depth = refl;
    keys = same_keys _ _ c.in_ok-clone.ensures.cases;
    values = sym (c.in_ok-values.ensures ∙ c.deref.ensures.value);
  };
}
