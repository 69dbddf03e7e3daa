use Rattle.std.proofs.Common.{◌≡◌, ◌∙◌, arith}
use Rattle.std.proofs.lemmas.Grind.{common_steps}
use Rattle.tcl_chars.specs.Texts.{literal}
use Rattle.tcl_vars.proofs.One.{one_is}
use Rattle.tcl_vars.proofs.counts.and_one.Goals as goal

pub returns : goal.returns
returns c =
    let increment : c.of_int.result ≡ literal "1" = c.of_int.ensures ∙ one_is in
    grind (arith, common_steps, increment)
