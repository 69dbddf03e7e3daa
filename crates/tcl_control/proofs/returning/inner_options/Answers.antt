use Rattle.std.proofs.Common.{ap, ◌∙◌}
use Rattle.std.specs.Str.{chars}
use Rattle.tcl_control.proofs.ExitLemmas.{stopped}
use Rattle.tcl_control.proofs.OptionJoins.{refused}
use Rattle.tcl_pages.specs.Dictionaries.{pairs_of}
use Rattle.tcl_control.proofs.returning.inner_options.Goals as goal

pub returns : goal.returns
returns c =
    refused c.args.value _ _ _ (stopped c.in-Err-Error.field-0 c.in-Err-Error.field-0-0 (pairs_of c.args.value) c.in-Err-Error.field-0-is c.in-Err-Error.ensures.pairs)
    (ap chars c.as_str.ensures.value ∙ c.in_ok-text-in-Err-Error.ensures.text ∙ c.dictionary.ensures.same) c.in_ok-said-in-Err-Error.ensures
