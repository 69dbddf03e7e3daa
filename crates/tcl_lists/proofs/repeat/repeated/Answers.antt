use Rattle.std.proofs.Common.{◌≡◌, ◌++◌, IfOk, ap, subst, ◌∙◌}
use Rattle.tcl_list.specs.Written.{written}
use Rattle.tcl_lists.proofs.Joining.{times_same}
use Rattle.tcl_lists.proofs.repeat.repeated.Goals as goal

pub returns-then-values-eq0 : goal.returns-then-values-eq0
returns-then-values-eq0 c =
    subst (λ us. IfOk c.into_value.result (λ v. v ≡ written us))
    (c.in_ok-once.ensures ∙ ap (λ us. us ++ c.args.values.now) c.in_ok-with_capacity.ensures ∙ times_same c.args.count c.args.values.now c.if-values-eq0.true) c.into_value.ensures
