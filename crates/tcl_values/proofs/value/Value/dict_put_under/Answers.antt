use Rattle.std.proofs.Common.{sym, subst, ◌∙◌, refl}
use Rattle.tcl_pages.specs.DictPages.{dict_set}
use Rattle.tcl_values.specs.Changes.{made_under}
use Rattle.tcl_values.specs.Lists.{Leaves}
use Rattle.tcl_values.specs.declared.making.Making.TheVariants as making
use Rattle.tcl_values.proofs.ChangedPairs.{made_or, set_turned}
use Rattle.tcl_values.proofs.value.Value.dict_put_under.Goals as goal

pub returns-clause-done : goal.returns-clause-done
returns-clause-done c =
    let m = making.Under c.pop.new.self c.in_ok-element.element in
    let key = c.in-Some.key in
    let is = set_turned c.args.self.now c.in_ok-element.element.text c.args.keys.items c.reverse.new.self.items c.pop.new.self.items c.in-Some.key (made_under m key) c.reverse.ensures.items c.in-Some.ensures.items (made_or m key refl) in
    subst (λ v. Leaves c.change_key.new.self (dict_set c.args.self.now v c.args.keys.items) c.change_key.result) (c.in_ok-element.ensures.text ∙ c.in_ok-into_element.ensures.text)
    (subst (λ r. Leaves c.change_key.new.self r c.change_key.result) (sym is) c.change_key.ensures.done)
