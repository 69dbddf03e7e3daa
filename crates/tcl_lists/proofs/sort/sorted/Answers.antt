use Rattle.std.proofs.Common.{ap, ◌∙◌}
use Rattle.tcl_lists.proofs.LsortLemmas.{numbers_are, texts_are, sorted_is}
use Rattle.tcl_lists.proofs.sort.sorted.Goals.{then-options+in_ok-items+in_ok-values, else-options+in_ok-spellings+in_ok-items-2+in_ok-values-2}
use Rattle.tcl_lists.proofs.sort.sorted.Goals as goal

pub returns : goal.returns
returns c =
    sorted_is c.args.options c.args.dialect c.args.elements.now c.if-options.values.items _
    (elim c.if-options.branch [
      | then-options+in_ok-items+in_ok-values w ↦
          numbers_are c.args.options c.args.dialect c.args.elements.now w.in_ok-items.items.items _ w.if-options.true w.in_ok-items.ensures (ap (λ v. v.items) w.values-is ∙ w.in_ok-values.ensures)
      | else-options+in_ok-spellings+in_ok-items-2+in_ok-values-2 w ↦
          texts_are c.args.options c.args.dialect c.args.elements.now w.in_ok-items-2.items.items _ w.if-options.false w.in_ok-items-2.ensures (ap (λ v. v.items) w.values-is ∙ w.in_ok-values-2.ensures)
    ]) c.in_ok-of_list.ensures
