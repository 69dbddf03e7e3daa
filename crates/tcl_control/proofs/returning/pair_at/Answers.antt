use Rattle.std.proofs.Common.{◌∙◌}
use Rattle.tcl_control.proofs.ReturnWords.{pair_is}
use Rattle.tcl_values.specs.Kept.{Kept}
use Rattle.tcl_control.proofs.returning.pair_at.Goals as goal

pub returns : goal.returns
returns c =
    (λ n. (c.in_ok-value.ensures n, c.in_ok-copy.ensures n))
    ∙ pair_is (λ (q : Kept). q.text) c.args.pairs.now c.keys-keys.result.now c.values-values.result.now c.args.place c.index-keys-place.result c.index-values-place.result
    c.requires c.keys-keys.ensures c.values-values.ensures c.index-keys-place.is c.index-values-place.is
