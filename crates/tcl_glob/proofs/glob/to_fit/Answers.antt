use Rattle.std.proofs.Common.{sym, ap, ◌∙◌}
use Rattle.std.specs.Str.{chars}
use Rattle.tcl_glob.specs.Glob.{to_fit}
use Rattle.std.proofs.lemmas.Str.{chars-nil}
use Rattle.tcl_glob.proofs.glob.to_fit.Goals as goal

pub returns-in-None : goal.returns-in-None
returns-in-None c = chars-nil ∙ sym (ap (λ ps. to_fit ps (chars c.args.text.now)) c.in-None.ensures.parts)
