-- proofs/update/append_under/Answers.antt
use Rattle.std.proofs.Common.{drop, subst}
use Rattle.tcl_pages.specs.Answers.{Answer}
use Rattle.tcl_pages.specs.Texts.{Text}
use Rattle.tcl_values.specs.Lists.{Leaves}
use Rattle.tcl_dicts.proofs.Updating.{append_one}
use Rattle.tcl_dicts.proofs.update.append_under.Goals as goal

pub returns-clause-done : goal.returns-clause-done
returns-clause-done c =
    subst (λ (m : Answer Text). Leaves c.dict_change.new.self m c.dict_change.result) (append_one c.args.value.now c.args.key c.in_ok-more.more (drop 1 c.args.words.now) c.in_ok-more.ensures.text) c.dict_change.ensures.done
