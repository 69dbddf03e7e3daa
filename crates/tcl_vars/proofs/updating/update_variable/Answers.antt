use Rattle.std.proofs.Common.{subst}
use Rattle.std.specs.FinMap as map
use Rattle.tcl_frames.specs.Standing.{store_of}
use Rattle.tcl_meaning.specs.Variables.{get}
use Rattle.tcl_steps.specs.Ends.{EndsDone}
use Rattle.tcl_vars.specs.Updating.{on_missing}
use Rattle.tcl_vars.proofs.UpdateLemmas.{changed_in_place, left_in_place, missed}
use Rattle.tcl_steps.proofs.VariableLemmas.{refused_by}
use Rattle.tcl_vars.proofs.updating.update_variable.Goals as goal

pub returns-in_ok-copy-in-Ok-change : goal.returns-in_ok-copy-in-Ok-change
returns-in_ok-copy-in-Ok-change c =
    rw (c.normal.ensures, c.in_ok-copy-in-Ok-change.ensures)
    (changed_in_place c.args.dialect c.args.page c.args.name.now c.args.words.now c.args.frames.now c.in-Ok.value.now c.change.new.value (λ cs. c.in-Ok.ensures.found cs) c.in-Ok-change.ensures.done)

pub returns-in-Err : goal.returns-in-Err
returns-in-Err c =
    rw c.stop_by.ensures
    (left_in_place c.args.dialect c.args.page c.args.name.now c.args.words.now c.args.frames.now c.in-Ok.value.now c.change.new.value c.in-Err.fault map.empty (λ cs. c.in-Ok.ensures.found cs) c.in-Err.ensures.done
    c.in-Err.ensures.same)

pub returns-in-Err-Refused : goal.returns-in-Err-Refused
returns-in-Err-Refused c =
    missed c.args.dialect c.args.page c.args.name.now c.args.words.now c.args.frames.now c.begin_variable.new.frames c.in-Err-Refused.refusal c.begin_variable.result
    (λ cs. refused_by (get (store_of cs c.args.frames.now) c.args.name.now) c.in-Err-Refused.field-0 c.in-Err-Refused.refusal c.in-Err-Refused.field-0-is (c.in-Err-Refused.ensures.refused cs))
    (subst (λ t. EndsDone (on_missing c.args.dialect c.args.page t c.args.words.now c.in-Err-Refused.refusal) c.args.frames.now c.begin_variable.result c.begin_variable.new.frames) c.as_str.ensures c.begin_variable.ensures)
