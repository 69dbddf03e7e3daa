use Rattle.std.proofs.Common.{◌<◌, length, drop, subst, ap, arith}
use Rattle.tcl_pages.specs.Answers.{Answer}
use Rattle.tcl_pages.specs.Texts.{Text}
use Rattle.tcl_values.specs.Lists.{Leaves}
use Rattle.tcl_dicts.proofs.Updating.{lappend_all, some_there}
use Rattle.tcl_dicts.proofs.update.lappend_under.Goals as goal

pub returns-clause-done : goal.returns-clause-done
returns-clause-done c =
    let there : 0 < length (drop 1 c.args.words.now) = omega (arith, some_there _ _ c.is_empty.ensures c.if-is_empty.false, c.in_ok-more.more.ok.0, ap length c.in_ok-more.ensures) in
    subst (λ (m : Answer Text). Leaves c.dict_change.new.self m c.dict_change.result) (lappend_all c.args.value.now c.args.key c.in_ok-more.more.items _ c.in_ok-more.ensures there) c.dict_change.ensures.done
