use Rattle.std.proofs.Common.{◌∙◌}
use Rattle.std.proofs.lemmas.Result.{err_from_is_err_and}
use Rattle.tcl_control.proofs.TryLemmas.{set_first, set_second}
use Rattle.tcl_control.proofs.trying.set_variables.Goals as goal

pub returns-in_err-set_variable : goal.returns-in_err-set_variable
returns-in_err-set_variable c =
    let p = err_from_is_err_and c.from_residual-in_err-set_variable.result c.from_residual-in_err-set_variable.ensures.1 in
    rw (p.1, p.2)
    (set_first c.args.names.now c.first-item.result _ _ _ _ _ c.first-item.is (c.in_ok-copy.ensures ∙ c.result.ensures) _ c.in-len1-up.len_at_least c.in_err-set_variable.ensures.ends)

pub returns : goal.returns
returns c =
    set_second c.args.names.now c.first-item.result _ _ _ _ _ c.first-item.is (c.in_ok-copy.ensures ∙ c.result.ensures) c.second-item.result _ c.set_variable-2.result _ c.in-len2-up.len_at_least
    c.second-item.is c.in_ok-options_text.ensures c.in_ok-set_variable.ensures.ends c.set_variable-2.ensures.ends
