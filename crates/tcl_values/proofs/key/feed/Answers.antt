use Rattle.std.proofs.Common.{sym, ap, ◌∙◌, fold}
use Rattle.std.specs.Hash as fed
use Rattle.std.proofs.lemmas.Str.{encodes-chars}
use Rattle.tcl_values.proofs.key.feed.Goals as goal

pub returns : goal.returns
returns g c = c.hash.ensures ∙ ap (λ t. fold g.H.Hasher.write c.args.state.now (fed.str t)) (sym (encodes-chars c.args.text.now c.utf8.text))
