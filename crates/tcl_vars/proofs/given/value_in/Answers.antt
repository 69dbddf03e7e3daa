use Rattle.std.proofs.Common.{◌≡◌, ◌≤◌, List, [], length, get_or, Result, Ok, Err, IfOk, ℕ, sym, ◌∙◌, arith}
use Rattle.tcl_pages.specs.Texts.{Text}
use Rattle.tcl_vars.proofs.AssignLemmas.{past_end}
use Rattle.tcl_vars.proofs.given.value_in.Goals as goal

none_there : {E : Type 0} (r : Result Text E) (ts : List Text) (n : ℕ) → length ts ≤ n → IfOk r (λ t. t ≡ []) → IfOk r (λ t. t ≡ get_or ts n [])
none_there (Ok t) ts n h e = e ∙ sym (past_end ts n h)
none_there (Err refused) ts n h e = tt

pub returns : goal.returns
returns c = none_there c.empty.result c.args.values.now c.args.place (omega arith) c.empty.ensures
