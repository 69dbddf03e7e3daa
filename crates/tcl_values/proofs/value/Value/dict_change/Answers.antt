use Rattle.std.proofs.Common.{sym, subst, refl}
use Rattle.tcl_values.specs.Changes.{after, made_under}
use Rattle.tcl_values.specs.Lists.{Leaves}
use Rattle.tcl_values.specs.declared.making.Making.TheVariants as making
use Rattle.tcl_values.proofs.ChangedPairs.{key_alike, made_or}
use Rattle.tcl_values.proofs.value.Value.dict_change.Goals as goal

pub returns-clause-done : goal.returns-clause-done
returns-clause-done c =
    let m = making.Changed c.args.change in
    let key = c.args.key in
    subst (λ r. Leaves c.change_key.new.self r c.change_key.result) (sym (key_alike (after c.args.change) (made_under m key) c.args.self.now key (made_or m key refl))) c.change_key.ensures.done
