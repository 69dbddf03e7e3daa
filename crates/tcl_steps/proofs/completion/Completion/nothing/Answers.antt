use Rattle.std.proofs.Common.{ap, ◌∙◌}
use Rattle.std.proofs.lemmas.Str.{chars-nil}
use Rattle.tcl_meaning.specs.Completions.{normal}
use Rattle.tcl_steps.proofs.completion.Completion.nothing.Goals as goal

pub returns : goal.returns
returns c = c.normal.ensures ∙ ap normal (c.in_ok-text.ensures ∙ chars-nil)
