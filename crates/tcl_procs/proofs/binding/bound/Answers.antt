use Rattle.std.proofs.Common.{sym, ap, ◌∙◌}
use Rattle.std.specs.FinMap as map
use Rattle.std.specs.Str.{chars}
use Rattle.tcl_procs.proofs.BindingLemmas.{bound_on, bound_to_none, bound_to_rest}
use Rattle.tcl_procs.proofs.binding.bound.Goals as goal

pub returns-then-takes_rest : goal.returns-then-takes_rest
returns-then-takes_rest c =
    bound_to_rest _ c.formals.variables c.formals.left.now c.formal-item.result c.formals.rest.now c.formals.invariant c.in-len1-up.len_at_least c.formal-item.is (sym c.takes_rest.ensures ∙ c.if-takes_rest.true)
    _ (chars c.as_str.result.now) c.insert.new.self c.in_ok-value.ensures (ap chars c.as_str.ensures.value)
    (c.in_ok-insert.ensures.put ∙ ap (map.insert c.formals.variables (chars c.as_str.result.now)) c.of_text.ensures)

pub returns-in_default-2 : goal.returns-in_default-2
returns-in_default-2 c =
    bound_to_none _ c.formals.variables c.formals.left.now c.formal-item.result c.formals.rest.now c.formals.invariant c.in-len1-up.len_at_least c.formal-item.is (sym c.takes_rest.ensures ∙ c.if-takes_rest.false)
    (sym c.in_default-2.is ∙ c.in_ok-value-2.ensures)

pub formals-preserved : goal.formals-preserved
formals-preserved c =
    bound_on _ c.formals.variables c.formals.left.now c.formal-item.result c.formals.rest.now c.formals.invariant c.in-len1-up.len_at_least c.formal-item.is (sym c.takes_rest.ensures ∙ c.if-takes_rest.false)
    c.in-Some.value (chars c.as_str-in-len1-up.result.now) c.insert-in-len1-up.new.self c.formals_behind-left.result.now c.behind_first-rest.result.now
    (sym c.in-Some.is ∙ c.in_ok-value-2.ensures) (ap chars c.as_str-in-len1-up.ensures.value)
    (c.in_ok-insert-2.ensures.put ∙ ap (map.insert c.formals.variables (chars c.as_str-in-len1-up.result.now)) c.of_text-in-len1-up.ensures) c.formals_behind-left.ensures c.behind_first-rest.ensures
