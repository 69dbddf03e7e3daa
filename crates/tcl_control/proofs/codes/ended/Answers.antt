use Rattle.std.proofs.Common.{Some, ap, sym, ◌∙◌}
use Rattle.std.proofs.lemmas.Str.{chars-nil}
use Rattle.tcl_meaning.specs.Completions.{ended}
use Rattle.tcl_meaning.specs.Tasks.{Done}
use Rattle.tcl_control.proofs.codes.ended.Goals as goal

pub returns : goal.returns
returns c = ap (λ x. Some (Done x)) (sym (c.ended.ensures ∙ ap (ended c.args.code) (c.in_ok-text.ensures ∙ chars-nil)))
