use Rattle.std.proofs.Common.{map, Ok, ap, ◌∙◌, sym, rules, w64, FitsSigned}
use Rattle.std.proofs.lemmas.Int.{to_z-of_z}
use Rattle.std.proofs.lemmas.List.{map_push}
use Rattle.std.proofs.lemmas.Result.{err_from_is_err_and}
use Rattle.tcl_lists.specs.Sorted.{with_number}
use Rattle.tcl_lists.proofs.SortLemmas.{numbers_go_on, numbers_stop}
use Rattle.tcl_lists.proofs.sort.numbered.Goals as goal

pub returns-in_err-key : goal.returns-in_err-key
returns-in_err-key c =
    let p = err_from_is_err_and c.from_residual-in_err-key.result c.from_residual-in_err-key.ensures.1 in
    rw (p.1, p.2)
    (numbers_stop c.args.dialect c.args.elements.now c.in_err-key.field-0.0 c.loop-element.element-index c.element-item.result (map with_number c.loop-element.items.items) _
    c.loop-element-test.true c.element-item.is c.in_err-key.ensures c.loop-element.invariant)

pub loop-element-preserved : goal.loop-element-preserved
loop-element-preserved c =
    let f : FitsSigned w64 c.in_ok-key.key = search rules in
    numbers_go_on c.args.dialect c.args.elements.now c.loop-element.element-index c.element-item.result (map with_number c.loop-element.items.items) _ (map with_number c.push.new.self.items)
    (ap (map with_number) c.in_ok-push.ensures.items ∙ map_push with_number c.loop-element.items.items _) c.loop-element-test.true c.element-item.is
    (c.in_ok-key.ensures ∙ ap Ok (sym (to_z-of_z w64 c.in_ok-key.key f))) ∙ c.loop-element.invariant
