use Rattle.std.proofs.Common.{◌≡◌, length, sym, ◌∙◌, rules}
use Rattle.tcl_values.proofs.PairPlaces.{count_in}
use Rattle.tcl_values.proofs.pairs.count_pairs.Goals as goal

pub returns : goal.returns
returns c =
    let count : c.len.result ≡ length c.args.pairs.now.values.items = search rules in
    count ∙ sym (count_in c.args.pairs.now.keys.keys c.args.pairs.now.values.items c.requires)
