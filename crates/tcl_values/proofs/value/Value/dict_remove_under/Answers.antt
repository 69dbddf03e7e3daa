use Rattle.std.proofs.Common.{◌<◌, length, sym, subst, refl, rules}
use Rattle.tcl_values.specs.Changes.{made_under}
use Rattle.tcl_values.specs.Lists.{Leaves}
use Rattle.tcl_values.specs.declared.making.Making.TheVariants as making
use Rattle.tcl_values.proofs.ChangedPairs.{known_or, unset_turned}
use Rattle.tcl_values.proofs.value.Value.dict_remove_under.Goals as goal

pub returns-clause-done : goal.returns-clause-done
returns-clause-done c =
    let some : 0 < length c.pop.new.self.items = search rules in
    let m = making.Without c.pop.new.self in
    let key = c.in-Some.key in
    let is = unset_turned c.args.self.now c.args.keys.items c.reverse.new.self.items c.pop.new.self.items c.in-Some.key (made_under m key) c.reverse.ensures.items c.in-Some.ensures.items some (known_or m key refl) in
    subst (λ r. Leaves c.change_key.new.self r c.change_key.result) (sym is) c.change_key.ensures.done
