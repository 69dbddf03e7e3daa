use Rattle.std.proofs.Common.{◌-◌, length, sym, ap, ◌∙◌}
use Rattle.std.proofs.lemmas.Str.{encodes-chars}
use Rattle.tcl_chars.specs.Place.{place}
use Rattle.tcl_chars.proofs.texts.place.Goals as goal

pub returns : goal.returns
unfolding place
returns c = c.saturating_sub.ensures ∙ ap (λ n. c.args.size - n) (ap length (sym (encodes-chars c.args.rest.now c.utf8.rest)))
