use Rattle.std.proofs.Common.{◌∙◌, ap}
use Rattle.std.specs.Str.{chars}
use Rattle.tcl_words.proofs.Spelled.{spelled}
use Rattle.tcl_words.proofs.fault.Syntax.text.Goals as goal

pub returns-clause-text : goal.returns-clause-text
returns-clause-text c = ap chars c.words.ensures ∙ spelled c.args.self
