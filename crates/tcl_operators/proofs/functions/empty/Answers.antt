use Rattle.std.proofs.Common.{◌≡◌, IfOk, subst}
use Rattle.std.proofs.lemmas.Str.{chars-nil}
use Rattle.tcl_operators.proofs.functions.empty.Goals as goal

pub returns : goal.returns
returns c = subst (λ t. IfOk c.of_str.result (λ v. v ≡ t)) chars-nil c.of_str.ensures
